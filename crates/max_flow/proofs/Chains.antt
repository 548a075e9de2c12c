-- The chains of arcs, as they are linked arc by arc.
use Rattle.std.proofs.Common.{◌≡◌, ◌<◌, ◌≤◌, ◌+◌, ◌-◌, ℕ, List, length, slice_index, set, ap, sym, ◌∙◌, subst, arith, ⊎_elim}
use Rattle.std.proofs.lemmas.Bool.{cases_eq, cases_lt}
use Rattle.std.proofs.lemmas.List.{get_or-set_same, get_or-set_other, length-set}
use Rattle.max_flow.specs.declared.network.Pipe.{Pipe}
use Rattle.max_flow.specs.Residual.{arc_count, tail, IsAfterLast}

-- the chains of the arcs below a limit
pub record ChainedBelow (pipes : List Pipe) (nodes : ℕ) (last previous : List ℕ) (limit : ℕ) : Type 0 where
  pub nodes_sized : length last ≡ nodes
  pub arcs_sized : length previous ≡ arc_count pipes
  pub begins : (n : ℕ) → n < nodes → IsAfterLast pipes n limit (slice_index last n)
  pub goes_on : (arc : ℕ) → arc < limit → IsAfterLast pipes (tail pipes arc) arc (slice_index previous arc)

pub ChainedBelow_none : (pipes : List Pipe) (nodes : ℕ) (last previous : List ℕ) → length last ≡ nodes → length previous ≡ arc_count pipes → ((n : ℕ) → slice_index last n ≡ 0) → ChainedBelow pipes nodes last previous 0
ChainedBelow_none pipes nodes last previous sized arcs empty = record {
  nodes_sized = sized;
  arcs_sized = arcs;
  begins = λ n lt. let e = empty n in record { low = omega arith; none = λ arc _ below. absurd (omega arith); here = λ some. absurd (omega arith) };
  goes_on = λ arc lt. absurd (omega arith);
}

-- one arc more
after_same : (pipes : List Pipe) (n a : ℕ) → tail pipes a ≡ n → IsAfterLast pipes n (a + 1) (a + 1)
after_same pipes n a e = record {
  low = omega arith;
  none = λ arc low high. absurd (omega arith);
  here = λ _. ap (tail pipes) (omega arith) ∙ e;
}

after_other : (pipes : List Pipe) (n a c : ℕ) → (tail pipes a ≡ n → ⊥) → IsAfterLast pipes n a c → IsAfterLast pipes n (a + 1) c
after_other pipes n a c other h = record {
  low = omega (arith, h.low);
  none = λ arc low high. ⊎_elim (λ same. λ e. other (ap (tail pipes) (sym same) ∙ e)) (λ differ. h.none arc low (omega arith)) (cases_eq arc a);
  here = h.here;
}

pub ChainedBelow_more : (pipes : List Pipe) (nodes : ℕ) (last previous : List ℕ) (a node : ℕ) → ChainedBelow pipes nodes last previous a → a < arc_count pipes → node ≡ tail pipes a → node < nodes
    → ChainedBelow pipes nodes (set last node (a + 1)) (set previous a (slice_index last node)) (a + 1)
ChainedBelow_more pipes nodes last previous a node h in_arcs is_tail in_nodes =
    let in_last : node < length last = omega (arith, h.nodes_sized) in
    let in_previous : a < length previous = omega (arith, h.arcs_sized) in
    record {
      nodes_sized = length-set last node (a + 1) ∙ h.nodes_sized;
      arcs_sized = length-set previous a (slice_index last node) ∙ h.arcs_sized;
      begins = λ n lt. ⊎_elim
          (λ same. subst (λ m. IsAfterLast pipes m (a + 1) (slice_index (set last node (a + 1)) m)) (sym same)
          (subst (IsAfterLast pipes node (a + 1)) (sym (get_or-set_same last node (a + 1) 0 in_last)) (after_same pipes node a (sym is_tail))))
          (λ differ. subst (IsAfterLast pipes n (a + 1)) (sym (get_or-set_other last node n (a + 1) 0 differ)) (after_other pipes n a _ (λ e. differ (sym e ∙ sym is_tail)) (h.begins n lt)))
          (cases_eq n node);
      goes_on = λ arc lt. ⊎_elim
          (λ same. subst (λ b. IsAfterLast pipes (tail pipes b) b (slice_index (set previous a (slice_index last node)) b)) (sym same)
          (subst (IsAfterLast pipes (tail pipes a) a) (sym (get_or-set_same previous a (slice_index last node) 0 in_previous))
          (subst (λ m. IsAfterLast pipes m a (slice_index last node)) is_tail (h.begins node in_nodes))))
          (λ differ. subst (IsAfterLast pipes (tail pipes arc) arc) (sym (get_or-set_other previous a arc (slice_index last node) 0 differ)) (h.goes_on arc (omega arith)))
          (cases_eq arc a);
    }

-- the arcs of a node, passed one by one along its chain
pub pass_arc : (P : ℕ → Type 0) (pipes : List Pipe) (node cursor behind limit : ℕ) → 0 < cursor → tail pipes (cursor - 1) ≡ node → IsAfterLast pipes (tail pipes (cursor - 1)) (cursor - 1) behind → P (cursor - 1)
    → ((arc : ℕ) → cursor ≤ arc → arc < limit → tail pipes arc ≡ node → P arc)
    → (arc : ℕ) → behind ≤ arc → arc < limit → tail pipes arc ≡ node → P arc
pass_arc P pipes node cursor behind limit some here goes_on at passed arc low high leaves = ⊎_elim
    (λ below. absurd (goes_on.none arc low below (leaves ∙ sym here)))
    (λ above. ⊎_elim (λ same. subst P (sym same) at) (λ differ. passed arc (omega arith) high leaves) (cases_eq arc (cursor - 1)))
    (cases_lt arc (cursor - 1))
