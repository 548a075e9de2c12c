-- A search in depth, step by step.
use Rattle.std.proofs.Common.{◌≡◌, ◌≢◌, ◌<◌, ◌≤◌, ◌+◌, ◌-◌, ◌*◌, ℕ, zero, suc, List, length, slice_index, set, refl, ap, sym, ◌∙◌, subst, arith, ⊎_elim, sum, take}
use Rattle.std.proofs.lemmas.Bool.{cases_eq, cases_lt}
use Rattle.std.proofs.lemmas.List.{get_or-set_same, get_or-set_other, length-set, length-take, get_or-take}
use Rattle.std.proofs.lemmas.List.Sums.{sum_by-set}
use Rattle.max_flow.specs.declared.network.Pipe.{Pipe}
use Rattle.max_flow.specs.Residual.{tail, head, residual, IsAfterLast}
use Rattle.max_flow.specs.Levels.{level_of, AreLevels, IsAdmissible}
use Rattle.max_flow.specs.Paths.{LeadsFrom, IsPathArc, IsPath, AreCurrent, PassedAreDead}
use Rattle.max_flow.proofs.Chains.{pass_arc}

-- the arcs of a node from a cursor up to where it was were passed, since none of them is admissible
pub record IsPassing (pipes : List Pipe) (backward levels : List ℕ) (node was cursor : ℕ) : Type 0 where
  pub low : cursor ≤ was
  pub here : 0 < cursor → tail pipes (cursor - 1) ≡ node
  pub passed : (arc : ℕ) → cursor ≤ arc → arc < was → tail pipes arc ≡ node → IsAdmissible pipes backward levels arc → ⊥

pub IsPassing_more : (pipes : List Pipe) (backward levels : List ℕ) (node was cursor behind : ℕ) → IsPassing pipes backward levels node was cursor → 0 < cursor → IsAfterLast pipes (tail pipes (cursor - 1)) (cursor - 1) behind
    → (IsAdmissible pipes backward levels (cursor - 1) → ⊥) → IsPassing pipes backward levels node was behind
IsPassing_more pipes backward levels node was cursor behind h some goes_on fails = record {
  low = omega (arith, h.low, goes_on.low);
  here = λ more. goes_on.here more ∙ h.here some;
  passed = pass_arc (λ arc. IsAdmissible pipes backward levels arc → ⊥) pipes node cursor behind was some (h.here some) goes_on fails h.passed;
}

-- a current arc is moved on along the chain of its node
module _ (pipes : List Pipe) (nodes : ℕ) (current : List ℕ) (node v : ℕ) (are : AreCurrent pipes nodes current) (node_in : node < nodes) (low : v ≤ slice_index current node) where
  lower_same : slice_index (set current node v) node ≡ v
  lower_same = get_or-set_same current node v 0 (omega (arith, are.sized))

  pub lower_other : (n : ℕ) → (n ≡ node → ⊥) → slice_index (set current node v) n ≡ slice_index current n
  lower_other n other = get_or-set_other current node n v 0 other

  pub lower_at : slice_index (set current node v) node ≡ v
  lower_at = lower_same

  lower_le : (n : ℕ) → slice_index (set current node v) n ≤ slice_index current n
  lower_le n = ⊎_elim (λ same. omega (arith, ap (slice_index (set current node v)) same, ap (slice_index current) same, lower_same, low)) (λ other. omega (arith, lower_other n other)) (cases_eq n node)

  pub lower_sum : sum (set current node v) + slice_index current node ≡ sum current + v
  lower_sum = sum_by-set (λ x. x) current node v 0 (omega (arith, are.sized))

  pub AreCurrent_lower : (0 < v → tail pipes (v - 1) ≡ node) → AreCurrent pipes nodes (set current node v)
  AreCurrent_lower here = record {
    sized = length-set current node v ∙ are.sized;
    low = λ n. omega (arith, lower_le n, are.low n);
    here = λ n. ⊎_elim
        (λ same. subst (λ m. 0 < slice_index (set current node v) m → tail pipes (slice_index (set current node v) m - 1) ≡ m) (sym same)
        (subst (λ w. 0 < w → tail pipes (w - 1) ≡ node) (sym lower_same) here))
        (λ other. subst (λ w. 0 < w → tail pipes (w - 1) ≡ n) (sym (lower_other n other)) (are.here n))
        (cases_eq n node);
  }

  pub dead_lower : (sink : ℕ) (backward levels : List ℕ) → PassedAreDead pipes sink backward levels current
      → ((arc : ℕ) → v ≤ arc → arc < slice_index current node → tail pipes arc ≡ node → IsAdmissible pipes backward levels arc → (slice_index (set current node v) (head pipes arc) ≡ 0) × (head pipes arc ≢ sink))
      → PassedAreDead pipes sink backward levels (set current node v)
  dead_lower sink backward levels dead passed arc arc_in at_or_past admissible =
      let old : slice_index current (tail pipes arc) ≤ arc → (slice_index (set current node v) (head pipes arc) ≡ 0) × (head pipes arc ≢ sink)
      = λ past. let d = dead arc arc_in past admissible in (omega (arith, lower_le (head pipes arc), d.0), d.1) in
      ⊎_elim
      (λ same. ⊎_elim
      (λ below. passed arc (omega (arith, ap (slice_index (set current node v)) same, lower_same, at_or_past)) below same admissible)
      (λ above. old (omega (arith, ap (slice_index current) same, above)))
      (cases_lt arc (slice_index current node)))
      (λ other. old (omega (arith, lower_other (tail pipes arc) other, at_or_past)))
      (cases_eq (tail pipes arc) node)

-- a walk from the source to a node, along current arcs
pub record IsWalking (pipes : List Pipe) (nodes source sink : ℕ) (backward levels was current path : List ℕ) (depth node : ℕ) : Type 0 where
  pub sound : AreCurrent pipes nodes current
  pub path_sized : length path ≡ nodes
  pub steps : IsPath pipes source backward levels path depth
  pub ends : LeadsFrom pipes source path depth node
  pub node_in : node < nodes
  pub level : level_of levels node ≡ depth + 1
  pub at_arc : (k : ℕ) → k < depth → slice_index current (tail pipes (slice_index path k)) ≡ slice_index path k + 1
  pub dead : PassedAreDead pipes sink backward levels was → PassedAreDead pipes sink backward levels current

pub IsWalking_begins : (pipes : List Pipe) (nodes source sink : ℕ) (backward levels current path : List ℕ) → AreCurrent pipes nodes current → length path ≡ nodes → source < nodes → level_of levels source ≡ 1
    → IsWalking pipes nodes source sink backward levels current current path 0 source
IsWalking_begins pipes nodes source sink backward levels current path are path_sized source_in first = record {
  sound = are;
  path_sized = path_sized;
  steps = λ k lt. absurd (omega arith);
  ends = record { begins = λ _. refl; enters = λ some. absurd (omega arith) };
  node_in = source_in;
  level = omega (arith, first);
  at_arc = λ k lt. absurd (omega arith);
  dead = λ dead. dead;
}

-- a path's arc stays one where the path's places up to it stay
leads_kept : (pipes : List Pipe) (source : ℕ) (path path' : List ℕ) (k node : ℕ) → (0 < k → slice_index path' (k - 1) ≡ slice_index path (k - 1)) → LeadsFrom pipes source path k node → LeadsFrom pipes source path' k node
leads_kept pipes source path path' k node before h = record {
  begins = h.begins;
  enters = λ some. ap (head pipes) (before some) ∙ h.enters some;
}

arc_kept : (pipes : List Pipe) (source : ℕ) (backward levels path path' : List ℕ) (k : ℕ) → slice_index path' k ≡ slice_index path k → (0 < k → slice_index path' (k - 1) ≡ slice_index path (k - 1))
    → IsPathArc pipes source backward levels path k → IsPathArc pipes source backward levels path' k
arc_kept pipes source backward levels path path' k same before h = record {
  arc_in = omega (arith, same, h.arc_in);
  open_arc = subst (λ a. 0 < residual pipes backward a) (sym same) h.open_arc;
  joined = subst (λ a. LeadsFrom pipes source path' k (tail pipes a)) (sym same) (leads_kept pipes source path path' k _ before h.joined);
  low = ap (λ a. level_of levels (tail pipes a)) same ∙ h.low;
  high = ap (λ a. level_of levels (head pipes a)) same ∙ h.high;
}

module _ (pipes : List Pipe) (nodes source sink : ℕ) (backward levels was current path : List ℕ) (depth node : ℕ) (h : IsWalking pipes nodes source sink backward levels was current path depth node) where
  -- the nodes before the last are on lower levels
  apart : (k : ℕ) → k < depth → tail pipes (slice_index path k) ≡ node → ⊥
  apart k lt same = absurd (omega (arith, ap (level_of levels) same, (h.steps k lt).low, h.level))

  module _ (cursor : ℕ) (passing : IsPassing pipes backward levels node (slice_index current node) cursor) where
    -- the current arc of the last node is moved on to its next admissible one
    pub lowered : IsWalking pipes nodes source sink backward levels was (set current node cursor) path depth node
    lowered = record {
      sound = AreCurrent_lower pipes nodes current node cursor h.sound h.node_in passing.low passing.here;
      path_sized = h.path_sized;
      steps = h.steps;
      ends = h.ends;
      node_in = h.node_in;
      level = h.level;
      at_arc = λ k lt. lower_other pipes nodes current node cursor h.sound h.node_in passing.low _ (apart k lt) ∙ h.at_arc k lt;
      dead = λ dead. dead_lower pipes nodes current node cursor h.sound h.node_in passing.low sink backward levels (h.dead dead)
          (λ arc low high leaves admissible. absurd (passing.passed arc low high leaves admissible));
    }

    -- the walk goes on along that arc
    pub advanced : 0 < cursor → IsAdmissible pipes backward levels (cursor - 1) → depth < nodes → head pipes (cursor - 1) < nodes
        → IsWalking pipes nodes source sink backward levels was (set current node cursor) (set path depth (cursor - 1)) (depth + 1) (head pipes (cursor - 1))
    advanced some admissible room head_in =
        let w = lowered in
        let arc : ℕ = cursor - 1 in
        let leaves : tail pipes arc ≡ node = passing.here some in
        let last : slice_index (set path depth arc) depth ≡ arc = get_or-set_same path depth arc 0 (omega (arith, h.path_sized)) in
        let kept : (k : ℕ) → k < depth → slice_index (set path depth arc) k ≡ slice_index path k = λ k lt. get_or-set_other path depth k arc 0 (λ same. absurd (omega arith)) in
        let rises : level_of levels (head pipes arc) ≡ depth + 2 = omega (arith, admissible.rises, ap (level_of levels) leaves, h.level) in
        record {
          sound = w.sound;
          path_sized = length-set path depth arc ∙ h.path_sized;
          steps = λ k lt. ⊎_elim
              (λ below. arc_kept pipes source backward levels path (set path depth arc) k (kept k below) (λ more. kept (k - 1) (omega arith)) (h.steps k below))
              (λ above. subst (IsPathArc pipes source backward levels (set path depth arc)) (omega arith) (record {
                arc_in = omega (arith, last, h.sound.low node, passing.low, some);
                open_arc = subst (λ a. 0 < residual pipes backward a) (sym last) admissible.open_arc;
                joined = subst (λ a. LeadsFrom pipes source (set path depth arc) depth (tail pipes a)) (sym last)
                    (subst (LeadsFrom pipes source (set path depth arc) depth) (sym leaves) (leads_kept pipes source path (set path depth arc) depth node (λ more. kept (depth - 1) (omega arith)) h.ends));
                low = ap (λ a. level_of levels (tail pipes a)) last ∙ ap (level_of levels) leaves ∙ h.level;
                high = ap (λ a. level_of levels (head pipes a)) last ∙ rises;
              }))
              (cases_lt k depth);
          ends = record {
            begins = λ none. absurd (omega arith);
            enters = λ _. ap (λ k. head pipes (slice_index (set path depth arc) k)) (omega arith) ∙ ap (head pipes) last;
          };
          node_in = head_in;
          level = omega (arith, rises);
          at_arc = λ k lt. ⊎_elim
              (λ below. ap (λ a. slice_index (set current node cursor) (tail pipes a)) (kept k below) ∙ w.at_arc k below ∙ ap (λ a. a + 1) (sym (kept k below)))
              (λ above. let e : k ≡ depth = omega arith in
              ap (λ i. slice_index (set current node cursor) (tail pipes (slice_index (set path depth arc) i))) e
              ∙ ap (λ a. slice_index (set current node cursor) (tail pipes a)) last ∙ ap (slice_index (set current node cursor)) leaves
              ∙ lower_at pipes nodes current node cursor h.sound h.node_in passing.low ∙ omega (arith, ap (slice_index (set path depth arc)) e, last, some))
              (cases_lt k depth);
          dead = w.dead;
        }

  -- the walk goes back from a node whose arcs are all passed, and passes the arc to it
  pub retreated : (behind : ℕ) → 0 < depth → slice_index current node ≡ 0 → node ≢ sink → tail pipes (slice_index path (depth - 1)) < nodes
      → IsAfterLast pipes (tail pipes (slice_index path (depth - 1))) (slice_index path (depth - 1)) behind
      → IsWalking pipes nodes source sink backward levels was (set current (tail pipes (slice_index path (depth - 1))) behind) path (depth - 1) (tail pipes (slice_index path (depth - 1)))
  retreated behind some none differs tail_in goes_on =
      let arc : ℕ = slice_index path (depth - 1) in
      let back : ℕ = tail pipes arc in
      let below : depth - 1 < depth = omega arith in
      let at : slice_index current back ≡ arc + 1 = h.at_arc (depth - 1) below in
      let low : behind ≤ slice_index current back = omega (arith, at, goes_on.low) in
      record {
        sound = AreCurrent_lower pipes nodes current back behind h.sound tail_in low goes_on.here;
        path_sized = h.path_sized;
        steps = λ k lt. h.steps k (omega arith);
        ends = (h.steps (depth - 1) below).joined;
        node_in = tail_in;
        level = (h.steps (depth - 1) below).low;
        at_arc = λ k lt. lower_other pipes nodes current back behind h.sound tail_in low _
            (λ same. absurd (omega (arith, ap (level_of levels) same, (h.steps k (omega arith)).low, (h.steps (depth - 1) below).low))) ∙ h.at_arc k (omega arith);
        dead = λ dead. dead_lower pipes nodes current back behind h.sound tail_in low sink backward levels (h.dead dead)
            (λ a lo hi leaves admissible. ⊎_elim
            (λ less. absurd (goes_on.none a lo less leaves))
            (λ more. let same : a ≡ arc = omega (arith, hi, at, more) in
            let enters : head pipes a ≡ node = ap (head pipes) same ∙ h.ends.enters some in
            let apart_back : node ≡ back → ⊥ = λ e. apart (depth - 1) below (sym e) in (
              ap (slice_index (set current back behind)) enters ∙ lower_other pipes nodes current back behind h.sound tail_in low node apart_back ∙ none,
              λ e. differs (sym enters ∙ e),
            ))
            (cases_lt a arc));
      }

  pub retreated_sum : (behind : ℕ) → 0 < depth → tail pipes (slice_index path (depth - 1)) < nodes → IsAfterLast pipes (tail pipes (slice_index path (depth - 1))) (slice_index path (depth - 1)) behind
      → sum (set current (tail pipes (slice_index path (depth - 1))) behind) < sum current
  retreated_sum behind some tail_in goes_on =
      let at : slice_index current (tail pipes (slice_index path (depth - 1))) ≡ slice_index path (depth - 1) + 1 = h.at_arc (depth - 1) (omega arith) in
      omega (arith, at, goes_on.low, lower_sum pipes nodes current (tail pipes (slice_index path (depth - 1))) behind h.sound tail_in (omega (arith, at, goes_on.low)))

-- both steps of a walk, from a node whose current arc was moved on
module _ (pipes : List Pipe) (nodes source sink : ℕ) (backward levels was current path : List ℕ) (depth node : ℕ) (h : IsWalking pipes nodes source sink backward levels was current path depth node)
    (limit : level_of levels node ≤ nodes) (cursor : ℕ) (passing : IsPassing pipes backward levels node (slice_index current node) cursor) (next : ℕ) (next_in : next < nodes) where
  pub forward : next ≡ head pipes (cursor - 1) → 0 < cursor → IsAdmissible pipes backward levels (cursor - 1)
      → IsWalking pipes nodes source sink backward levels was (set current node cursor) (set path depth (cursor - 1)) (depth + 1) next
  forward is_head some admissible =
      subst (IsWalking pipes nodes source sink backward levels was (set current node cursor) (set path depth (cursor - 1)) (depth + 1)) (sym is_head)
      (advanced pipes nodes source sink backward levels was current path depth node h cursor passing some admissible (omega (arith, h.level, limit)) (omega (arith, is_head, next_in)))

  module _ (behind : ℕ) (is_tail : next ≡ tail pipes (slice_index path (depth - 1))) (some : 0 < depth) (none : cursor ≡ 0)
      (goes_on : IsAfterLast pipes (tail pipes (slice_index path (depth - 1))) (slice_index path (depth - 1)) behind) where
    low_node : IsWalking pipes nodes source sink backward levels was (set current node cursor) path depth node
    low_node = lowered pipes nodes source sink backward levels was current path depth node h cursor passing

    tail_in : tail pipes (slice_index path (depth - 1)) < nodes
    tail_in = omega (arith, is_tail, next_in)

    pub backwards : node ≢ sink → IsWalking pipes nodes source sink backward levels was (set (set current node cursor) next behind) path (depth - 1) next
    backwards differs =
        subst (λ n. IsWalking pipes nodes source sink backward levels was (set (set current node cursor) n behind) path (depth - 1) n) (sym is_tail)
        (retreated pipes nodes source sink backward levels was (set current node cursor) path depth node low_node behind some
        (lower_at pipes nodes current node cursor h.sound h.node_in passing.low ∙ none) differs tail_in goes_on)

    pub backwards_smaller : 2 * sum (set (set current node cursor) next behind) + (nodes - (depth - 1)) < 2 * sum current + (nodes - depth)
    backwards_smaller =
        let first = lower_sum pipes nodes current node cursor h.sound h.node_in passing.low in
        let second : sum (set (set current node cursor) next behind) < sum (set current node cursor)
        = subst (λ n. sum (set (set current node cursor) n behind) < sum (set current node cursor)) (sym is_tail)
        (retreated_sum pipes nodes source sink backward levels was (set current node cursor) path depth node low_node behind some tail_in goes_on) in
        omega (arith, first, second, passing.low, some, h.level, limit)

-- where the source has no arc left, no level leads to the sink
module _ (pipes : List Pipe) (nodes source sink : ℕ) (backward levels current : List ℕ) (are : AreLevels pipes nodes source backward levels) (dead : PassedAreDead pipes sink backward levels current) where
  abbrev Dead : ℕ → Type 0
  Dead n = (slice_index current n ≡ 0) × (n ≢ sink)

  alive_before : (l n : ℕ) → level_of levels n ≤ l + 1 → 0 < level_of levels n → (Dead n → ⊥) → Dead source → ⊥
  alive_before zero n low some alive ended = alive (subst Dead (sym (are.only n (omega arith))) ended)
  alive_before (suc l) n low some alive ended = ⊎_elim
      (λ more. let led = are.led n more in let a = led.1 in
      alive_before l (tail pipes led.0) (omega (arith, a.before, low)) (omega (arith, a.before, more))
      (λ gone. alive (subst Dead a.enters (dead led.0 a.arc_in (omega (arith, gone.0)) (record { open_arc = a.open_arc; rises = ap (level_of levels) a.enters ∙ sym a.before }))))
      ended)
      (λ less. alive (subst Dead (sym (are.only n (omega arith))) ended))
      (cases_lt 1 (level_of levels n))

  pub no_way : 0 < level_of levels sink → source ≢ sink → slice_index current source ≡ 0 → ⊥
  no_way reached differ none = alive_before (level_of levels sink) sink (omega arith) reached (λ gone. gone.1 refl) (none, differ)

-- a path is one by its own arcs alone
pub IsPath-take : (pipes : List Pipe) (source : ℕ) (backward levels path : List ℕ) (depth : ℕ) → depth ≤ length path → IsPath pipes source backward levels path depth → IsPath pipes source backward levels (take depth path) (length (take depth path))
IsPath-take pipes source backward levels path depth short h k lt =
    let below : k < depth = omega (arith, length-take depth path, lt) in
    arc_kept pipes source backward levels path (take depth path) k (get_or-take depth path k 0 below) (λ some. get_or-take depth path (k - 1) 0 (omega arith)) (h k below)
