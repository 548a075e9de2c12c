-- A search by breadth, step by step.
use Rattle.std.proofs.Common.{◌≡◌, ◌<◌, ◌≤◌, ◌+◌, ◌-◌, ◌⊎◌, inl, inr, ℕ, zero, suc, List, [], ◌∷◌, ◌++◌, length, slice_index, get_or, set, replicate, cond, refl, ap, sym, ◌∙◌, subst, arith, ⊎_elim, nat_lt, count_by}
use Rattle.std.proofs.lemmas.Bool.{cases_eq, cases_lt, lt-ltb, le-ltb}
use Rattle.std.proofs.lemmas.List.{get_or-set_same, get_or-set_other, length-set, get_or_past, get_or-replicate, length-replicate, get_or_append_left, get_or_push, length_push}
use Rattle.std.proofs.lemmas.List.Sums.{sum_by-set, sum_by-cons, count_by-le-length}
use Rattle.max_flow.specs.declared.network.Pipe.{Pipe}
use Rattle.max_flow.specs.Residual.{arc_count, tail, head, residual, IsAfterLast}
use Rattle.max_flow.specs.Levels.{level_of, levelled, LeadsTo, AreLevels, IsClosed, IsSearch, IsTried}
use Rattle.max_flow.proofs.Chains.{pass_arc}

-- what has a level is a node
pub level_in : (levels : List ℕ) (n : ℕ) → 0 < level_of levels n → n < length levels
level_in levels n some = ⊎_elim (λ lt. lt) (λ past. absurd (omega (arith, get_or_past levels n 0 past))) (cases_lt n (length levels))

-- how many nodes have a level, once one more has
counted_more : (levels : List ℕ) (n v : ℕ) → n < length levels → level_of levels n ≡ 0 → 0 < v → count_by (λ level. nat_lt 0 level) (set levels n v) ≡ count_by (λ level. nat_lt 0 level) levels + 1
counted_more levels n v lt none some =
    let e = sum_by-set (λ level. cond (nat_lt 0 level) 1 0) levels n v 0 lt in
    let old : ◌≡◌ {A = ℕ} (cond (nat_lt 0 (get_or levels n 0)) 1 0) 0 = ap (λ b. cond b 1 0) (le-ltb 0 (get_or levels n 0) (omega (arith, none))) in
    let now : ◌≡◌ {A = ℕ} (cond (nat_lt 0 v) 1 0) 1 = ap (λ b. cond b 1 0) (lt-ltb 0 v some) in
    omega (arith, e, old, now)

-- what waits, with one node more at its end
pushed_old : (waiting : List ℕ) (node k : ℕ) → k < length waiting → slice_index (waiting ++ node ∷ []) k ≡ slice_index waiting k
pushed_old waiting node k lt = get_or_append_left waiting (node ∷ []) 0 k lt

pushed_last : (waiting : List ℕ) (node k : ℕ) → k < length (waiting ++ node ∷ []) → length waiting ≤ k → slice_index (waiting ++ node ∷ []) k ≡ node
pushed_last waiting node k lt past = get_or_push waiting node 0 k (omega (arith, length_push waiting node))

module _ (pipes : List Pipe) (nodes source : ℕ) (backward levels waiting : List ℕ) (h : IsSearch pipes nodes source backward levels waiting) where
  pub levelled_limit : levelled levels ≤ nodes
  levelled_limit = omega (arith, count_by-le-length (λ level. nat_lt 0 level) levels, h.levels_sized)

  -- fewer nodes have a level than there are, while one has none
  pub room_for : (n : ℕ) → n < nodes → level_of levels n ≡ 0 → levelled levels < nodes
  room_for n lt none = omega (arith, counted_more levels n 1 (omega (arith, h.levels_sized)) none (omega arith), count_by-le-length (λ level. nat_lt 0 level) (set levels n 1), length-set levels n 1, h.levels_sized)

  -- one node more has a level, and waits
  module _ (arc from node : ℕ) (arc_in : arc < arc_count pipes) (leaves : tail pipes arc ≡ from) (from_level : 0 < level_of levels from) (enters : node ≡ head pipes arc)
      (node_in : node < nodes) (none : level_of levels node ≡ 0) (open_arc : 0 < residual pipes backward arc) where
    abbrev risen : List ℕ
    risen = set levels node (level_of levels from + 1)

    abbrev longer : List ℕ
    longer = waiting ++ node ∷ []

    level_same : level_of risen node ≡ level_of levels from + 1
    level_same = get_or-set_same levels node (level_of levels from + 1) 0 (omega (arith, h.levels_sized))

    level_other : (n : ℕ) → (n ≡ node → ⊥) → level_of risen n ≡ level_of levels n
    level_other n other = get_or-set_other levels node n (level_of levels from + 1) 0 other

    level_kept : (n : ℕ) → 0 < level_of levels n → level_of risen n ≡ level_of levels n
    level_kept n some = level_other n (λ same. absurd (omega (arith, ap (level_of levels) same, none)))

    pub enqueue_count : levelled risen ≡ levelled levels + 1
    enqueue_count = counted_more levels node _ (omega (arith, h.levels_sized)) none (omega arith)

    pub enqueue_kept : (n : ℕ) → 0 < level_of levels n → 0 < level_of risen n
    enqueue_kept n some = omega (arith, level_kept n some)

    pub enqueue_tried : 0 < level_of risen node
    enqueue_tried = omega (arith, level_same)

    led_new : (n : ℕ) → n ≡ node → (a : ℕ) × LeadsTo pipes backward risen n a
    led_new n same = (
      arc,
      record {
        arc_in = arc_in;
        enters = sym enters ∙ sym same;
        open_arc = open_arc;
        before = omega (arith, level_same, ap (level_of risen) same, ap (level_of risen) leaves, level_kept from from_level);
      },
    )

    led_old : (n : ℕ) → (n ≡ node → ⊥) → 1 < level_of risen n → (a : ℕ) × LeadsTo pipes backward risen n a
    led_old n other some =
        let old = h.led n (omega (arith, level_other n other)) in
        let before = old.1.before in
        let e : level_of levels n ≡ level_of risen n = sym (level_other n other) in (
          old.0,
          record {
            arc_in = old.1.arc_in;
            enters = old.1.enters;
            open_arc = old.1.open_arc;
            before = omega (arith, before, e, level_kept (tail pipes old.0) (omega (arith, before, e)));
          },
        )

    tried_old : (n : ℕ) → ((k : ℕ) × (k < length waiting) × (slice_index waiting k ≡ n)) ⊎ IsTried pipes backward levels n
        → ((k : ℕ) × (k < length longer) × (slice_index longer k ≡ n)) ⊎ IsTried pipes backward risen n
    tried_old n (inl at) = inl (at.0, omega (arith, at.1, length_push waiting node), pushed_old waiting node at.0 at.1 ∙ at.2)
    tried_old n (inr tried) = inr (λ a a_in leaves opened. enqueue_kept _ (tried a a_in leaves opened))

    pub enqueue : IsSearch pipes nodes source backward risen longer
    enqueue = record {
      levels_sized = length-set levels node _ ∙ h.levels_sized;
      first = level_kept source (omega (arith, h.first)) ∙ h.first;
      only = λ n one. ⊎_elim (λ same. absurd (omega (arith, one, ap (level_of risen) same, level_same, from_level))) (λ other. h.only n (sym (level_other n other) ∙ one)) (cases_eq n node);
      led = λ n some. ⊎_elim (led_new n) (λ other. led_old n other some) (cases_eq n node);
      limit = λ n. ⊎_elim
          (λ same. omega (arith, ap (level_of risen) same, level_same, enqueue_count, h.limit from))
          (λ other. omega (arith, level_other n other, enqueue_count, h.limit n))
          (cases_eq n node);
      waits = λ k lt. ⊎_elim
          (λ below. subst (λ n. 0 < level_of risen n) (sym (pushed_old waiting node k below)) (enqueue_kept _ (h.waits k below)))
          (λ above. subst (λ n. 0 < level_of risen n) (sym (pushed_last waiting node k lt above)) enqueue_tried)
          (cases_lt k (length waiting));
      tried = λ n some. ⊎_elim
          (λ same. inl (length waiting, omega (arith, length_push waiting node), get_or_push waiting node 0 (length waiting) refl ∙ sym same))
          (λ other. tried_old n (h.tried n (omega (arith, level_other n other))))
          (cases_eq n node);
    }

-- the first node that waits is one, with a level
pub front_level : (pipes : List Pipe) (nodes source : ℕ) (backward levels waiting : List ℕ) (node : ℕ) → IsSearch pipes nodes source backward levels (node ∷ waiting) → 0 < level_of levels node
front_level pipes nodes source backward levels waiting node h = h.waits 0 (omega arith)

pub front_in : (pipes : List Pipe) (nodes source : ℕ) (backward levels waiting : List ℕ) (node : ℕ) → IsSearch pipes nodes source backward levels (node ∷ waiting) → node < nodes
front_in pipes nodes source backward levels waiting node h =
    omega (arith, level_in levels node (front_level pipes nodes source backward levels waiting node h), h.levels_sized)

-- a search that has tried the arcs of a node that waits no more, from a cursor on
pub record IsVisiting (pipes : List Pipe) (nodes source : ℕ) (backward before levels began waiting : List ℕ) (node cursor : ℕ) : Type 0 where
  pub search : IsSearch pipes nodes source backward levels (node ∷ waiting)
  pub wait : levelled levels + length began ≡ levelled before + length waiting
  pub low : cursor ≤ arc_count pipes
  pub here : 0 < cursor → tail pipes (cursor - 1) ≡ node
  pub tried : (arc : ℕ) → cursor ≤ arc → arc < arc_count pipes → tail pipes arc ≡ node → 0 < residual pipes backward arc → 0 < level_of levels (head pipes arc)

pub IsVisiting_begins : (pipes : List Pipe) (nodes source : ℕ) (backward levels waiting : List ℕ) (node cursor : ℕ) → IsSearch pipes nodes source backward levels (node ∷ waiting)
    → IsAfterLast pipes node (arc_count pipes) cursor → IsVisiting pipes nodes source backward levels levels waiting waiting node cursor
IsVisiting_begins pipes nodes source backward levels waiting node cursor search begins = record {
  search = search;
  wait = refl;
  low = begins.low;
  here = begins.here;
  tried = λ arc low high leaves. absurd (begins.none arc low high leaves);
}

pub IsVisiting_more : (pipes : List Pipe) (nodes source : ℕ) (backward before levels levels' began waiting waiting' : List ℕ) (node cursor behind : ℕ)
    → IsVisiting pipes nodes source backward before levels began waiting node cursor → 0 < cursor → IsAfterLast pipes (tail pipes (cursor - 1)) (cursor - 1) behind
    → IsSearch pipes nodes source backward levels' (node ∷ waiting') → levelled levels' + length waiting ≡ levelled levels + length waiting' → ((n : ℕ) → 0 < level_of levels n → 0 < level_of levels' n)
    → (0 < residual pipes backward (cursor - 1) → 0 < level_of levels' (head pipes (cursor - 1)))
    → IsVisiting pipes nodes source backward before levels' began waiting' node behind
IsVisiting_more pipes nodes source backward before levels levels' began waiting waiting' node cursor behind h some goes_on search wait kept tried = record {
  search = search;
  wait = omega (arith, h.wait, wait);
  low = omega (arith, goes_on.low, h.low);
  here = λ more. goes_on.here more ∙ h.here some;
  tried = pass_arc (λ a. 0 < residual pipes backward a → 0 < level_of levels' (head pipes a)) pipes node cursor behind (arc_count pipes) some (h.here some) goes_on tried
      (λ a lo hi lv opened. kept _ (h.tried a lo hi lv opened));
}

-- all arcs of the node were tried
pub IsVisiting_ends : (pipes : List Pipe) (nodes source : ℕ) (backward before levels began waiting : List ℕ) (node : ℕ) → IsVisiting pipes nodes source backward before levels began waiting node 0
    → IsSearch pipes nodes source backward levels waiting
IsVisiting_ends pipes nodes source backward before levels began waiting node h = let s = h.search in record {
  levels_sized = s.levels_sized;
  first = s.first;
  only = s.only;
  led = s.led;
  limit = s.limit;
  waits = λ k lt. s.waits (suc k) (omega arith);
  tried = λ n some. without n (s.tried n some);
}
  where
    without : (n : ℕ) → ((k : ℕ) × (k < length (node ∷ waiting)) × (slice_index (node ∷ waiting) k ≡ n)) ⊎ IsTried pipes backward levels n
        → ((k : ℕ) × (k < length waiting) × (slice_index waiting k ≡ n)) ⊎ IsTried pipes backward levels n
    without n (inl (zero, lt, is)) = inr (λ arc arc_in leaves opened. h.tried arc (omega arith) arc_in (leaves ∙ sym is) opened)
    without n (inl (suc k, lt, is)) = inl (k, omega (arith, lt), is)
    without n (inr tried) = inr tried

abbrev pub zeros : ℕ → List ℕ
zeros n = replicate n 0

length-zeros : (n : ℕ) → length (zeros n) ≡ n
length-zeros n = length-replicate {A = ℕ} n 0

zeros_at : (n m : ℕ) → get_or (zeros n) m 0 ≡ 0
zeros_at n m = ⊎_elim (λ lt. get_or-replicate n m 0 0 lt) (λ past. get_or_past (zeros n) m 0 (omega (arith, length-zeros n))) (cases_lt m n)

count_none : (n : ℕ) → count_by (λ level. nat_lt 0 level) (zeros n) ≡ 0
count_none zero = refl
count_none (suc n) = omega (arith, sum_by-cons (λ level. cond (nat_lt 0 level) 1 0) 0 (zeros n), count_none n)

-- the search as it begins: the source alone has a level, and waits
module _ (pipes : List Pipe) (nodes source : ℕ) (backward : List ℕ) (source_in : source < nodes) where
  abbrev lone : List ℕ
  lone = set (zeros nodes) source 1

  lone_other : (n : ℕ) → (n ≡ source → ⊥) → level_of lone n ≡ 0
  lone_other n other = get_or-set_other (zeros nodes) source n 1 0 other ∙ zeros_at nodes n

  lone_source : level_of lone source ≡ 1
  lone_source = get_or-set_same (zeros nodes) source 1 0 (omega (arith, length-zeros nodes))

  lone_only : (n : ℕ) → 0 < level_of lone n → n ≡ source
  lone_only n some = ⊎_elim (λ same. same) (λ other. absurd (omega (arith, lone_other n other))) (cases_eq n source)

  lone_low : (n : ℕ) → level_of lone n ≤ 1
  lone_low n = ⊎_elim (λ same. omega (arith, lone_source, ap (level_of lone) same)) (λ other. omega (arith, lone_other n other)) (cases_eq n source)

  lone_count : levelled lone ≡ 1
  lone_count = counted_more (zeros nodes) source 1 (omega (arith, length-zeros nodes)) (zeros_at nodes source) (omega arith) ∙ ap (λ m. m + 1) (count_none nodes)

  lone_first : (k : ℕ) → k < 1 → slice_index (source ∷ []) k ≡ source
  lone_first k lt = ap (slice_index (source ∷ [])) (let e : k ≡ 0 = omega (arith, lt) in e)

  pub IsSearch_begins : IsSearch pipes nodes source backward lone (source ∷ [])
  IsSearch_begins = record {
    levels_sized = length-set (zeros nodes) source 1 ∙ length-zeros nodes;
    first = lone_source;
    only = λ n one. lone_only n (omega arith);
    led = λ n some. absurd (omega (arith, lone_low n));
    limit = λ n. omega (arith, lone_low n, lone_count);
    waits = λ k lt. subst (λ n. 0 < level_of lone n) (sym (lone_first k lt)) (omega (arith, lone_source));
    tried = λ n some. inl (0, omega arith, sym (lone_only n some));
  }

-- levels that a search has found
pub IsSearch_levels : (pipes : List Pipe) (nodes source : ℕ) (backward levels waiting : List ℕ) → IsSearch pipes nodes source backward levels waiting → AreLevels pipes nodes source backward levels
IsSearch_levels pipes nodes source backward levels waiting h = record {
  numbers = record {
    sized = h.levels_sized;
    first = h.first;
    limit = λ n. omega (arith, h.limit n, levelled_limit pipes nodes source backward levels waiting h);
  };
  only = h.only;
  led = h.led;
}

-- a search in which none waits has tried the arcs of all nodes with a level
pub IsSearch_closed : (pipes : List Pipe) (nodes source : ℕ) (backward levels : List ℕ) → IsSearch pipes nodes source backward levels [] → IsClosed pipes backward levels
IsSearch_closed pipes nodes source backward levels h arc arc_in some opened = all (h.tried (tail pipes arc) some)
  where
    all : ((k : ℕ) × (k < 0) × (slice_index [] k ≡ tail pipes arc)) ⊎ IsTried pipes backward levels (tail pipes arc) → 0 < level_of levels (head pipes arc)
    all (inl at) = absurd (omega (arith, at.1))
    all (inr tried) = tried arc arc_in refl opened
