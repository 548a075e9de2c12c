-- What a solver leaves is a greatest flow, and the smallest source side of a least cut.
use Rattle.std.proofs.Common.{◌≡◌, ◌<◌, ◌≤◌, ◌+◌, ◌-◌, ◌*◌, ◌/◌, ◌%◌, ℕ, zero, suc, List, length, slice_index, All, ap, sym, ◌∙◌, subst, arith, ⊎_elim, Bool, true, false, ℤ, pos, ◌-ℤ◌, ◌≤ℤ◌, nat_lt}
use Rattle.std.proofs.lemmas.Bool.{cases_eq, cases_lt, lt-ltb, le-ltb, ltb-true, cases_Bool, false≢true}
use Rattle.std.proofs.lemmas.Int.{ints}
use Rattle.max_flow.specs.declared.network.Pipe.{Pipe}
use Rattle.max_flow.specs.Networks.{FlowNetwork, IsPipeOf, pipe_at}
use Rattle.max_flow.specs.Flows.{pipe_flow, net_leaving, IsFlow, flow_value, is_in, IsCut, capacity_out, cut_capacity, IsLeastCut, IsContained}
use Rattle.max_flow.specs.Residual.{arc_count, tail, head, residual, AreResiduals, flows_of, excess, Carries}
use Rattle.max_flow.specs.Levels.{level_of, AreLevels, IsClosed}
use Rattle.max_flow.specs.Solutions.{IsSolution}
use Rattle.max_flow.proofs.Arcs.{half_below, residual_even, residual_odd, tail_even, tail_odd, head_even, head_odd}
use Rattle.max_flow.proofs.FlowLists.{length-flows_of, flow_at-flows_of}
use Rattle.max_flow.proofs.Duality.{value_leaves, leaves_le, IsFull, AllFull, full_leaves, leaves_full}

module _ (pipes : List Pipe) (backward : List ℕ) (are : AreResiduals pipes backward) (side : ℕ → Bool) where
  flow_is : (j : ℕ) → j < length pipes → pipe_flow (flows_of pipes backward) j ≡ pos (slice_index backward j) -ℤ pos (pipe_at pipes j).back
  flow_is j lt = flow_at-flows_of pipes backward j are.sized lt

  -- sides of a full pipe
  at_sides : (a b : Bool) (j : ℕ) → side (pipe_at pipes j).from ≡ a → side (pipe_at pipes j).to ≡ b
      → IsFull (side (pipe_at pipes j).from) (side (pipe_at pipes j).to) (pipe_at pipes j) (pipe_flow (flows_of pipes backward) j) → IsFull a b (pipe_at pipes j) (pipe_flow (flows_of pipes backward) j)
  at_sides a b j from to h =
      subst (λ x. IsFull a x (pipe_at pipes j) (pipe_flow (flows_of pipes backward) j)) to
      (subst (λ x. IsFull x (side (pipe_at pipes j).to) (pipe_at pipes j) (pipe_flow (flows_of pipes backward) j)) from h)

  from_sides : (a b : Bool) (j : ℕ) → side (pipe_at pipes j).from ≡ a → side (pipe_at pipes j).to ≡ b
      → IsFull a b (pipe_at pipes j) (pipe_flow (flows_of pipes backward) j) → IsFull (side (pipe_at pipes j).from) (side (pipe_at pipes j).to) (pipe_at pipes j) (pipe_flow (flows_of pipes backward) j)
  from_sides a b j from to h =
      subst (λ x. IsFull (side (pipe_at pipes j).from) x (pipe_at pipes j) (pipe_flow (flows_of pipes backward) j)) (sym to)
      (subst (λ x. IsFull x b (pipe_at pipes j) (pipe_flow (flows_of pipes backward) j)) (sym from) h)

  -- where each pipe carries all that it can out of a set, no arc out of it can carry more
  pub full_shut : AllFull side pipes (flows_of pipes backward) → (arc : ℕ) → arc < arc_count pipes → side (tail pipes arc) ≡ true → side (head pipes arc) ≡ false → residual pipes backward arc ≡ 0
  full_shut full arc arc_in inside outside =
      let lt = half_below arc (length pipes) arc_in in
      ⊎_elim
      (λ even.
      let h = at_sides true false (arc / 2) (ap side (sym (tail_even pipes backward arc even)) ∙ inside) (ap side (sym (head_even pipes backward arc even)) ∙ outside) (full (arc / 2) lt) in
      omega (arith, ints, h, flow_is (arc / 2) lt, are.within (arc / 2) lt, residual_even pipes backward arc even))
      (λ odd.
      let h = at_sides false true (arc / 2) (ap side (sym (head_odd pipes backward arc odd)) ∙ outside) (ap side (sym (tail_odd pipes backward arc odd)) ∙ inside) (full (arc / 2) lt) in
      omega (arith, ints, h, flow_is (arc / 2) lt, residual_odd pipes backward arc odd))
      (cases_eq (arc % 2) 0)

  -- and the other way round
  pub shut_full : ((arc : ℕ) → arc < arc_count pipes → side (tail pipes arc) ≡ true → side (head pipes arc) ≡ false → residual pipes backward arc ≡ 0) → AllFull side pipes (flows_of pipes backward)
  shut_full shut j lt = ⊎_elim
      (λ from. ⊎_elim (λ to. from_sides true true j from to (omega (arith, ints))) (λ to. from_sides true false j from to (omega (arith, ints, ahead from to, flow_is j lt, are.within j lt))) (cases_Bool (side (pipe_at pipes j).to)))
      (λ from. ⊎_elim (λ to. from_sides false true j from to (omega (arith, ints, behind from to, flow_is j lt))) (λ to. from_sides false false j from to (omega (arith, ints))) (cases_Bool (side (pipe_at pipes j).to)))
      (cases_Bool (side (pipe_at pipes j).from))
    where
      here : (2 * j) / 2 ≡ j
      here = omega arith

      here_too : (2 * j + 1) / 2 ≡ j
      here_too = omega arith

      ahead : side (pipe_at pipes j).from ≡ true → side (pipe_at pipes j).to ≡ false → ((pipe_at pipes j).ahead + (pipe_at pipes j).back) - slice_index backward j ≡ 0
      ahead from to =
          let e : (2 * j) % 2 ≡ 0 = omega arith in
          ap (λ k. ((pipe_at pipes k).ahead + (pipe_at pipes k).back) - slice_index backward k) (sym here) ∙ sym (residual_even pipes backward (2 * j) e)
          ∙ shut (2 * j) (omega arith) (ap side (tail_even pipes backward (2 * j) e ∙ ap (λ k. (pipe_at pipes k).from) here) ∙ from) (ap side (head_even pipes backward (2 * j) e ∙ ap (λ k. (pipe_at pipes k).to) here) ∙ to)

      behind : side (pipe_at pipes j).from ≡ false → side (pipe_at pipes j).to ≡ true → slice_index backward j ≡ 0
      behind from to =
          let e : (2 * j + 1) % 2 ≡ 0 → ⊥ = λ even. absurd (omega arith) in
          ap (slice_index backward) (sym here_too) ∙ sym (residual_odd pipes backward (2 * j + 1) e)
          ∙ shut (2 * j + 1) (omega arith) (ap side (tail_odd pipes backward (2 * j + 1) e ∙ ap (λ k. (pipe_at pipes k).to) here_too) ∙ to) (ap side (head_odd pipes backward (2 * j + 1) e ∙ ap (λ k. (pipe_at pipes k).from) here_too) ∙ from)

-- what the solver leaves
pub record IsSolved (network : FlowNetwork) (backward levels : List ℕ) (flows : List ℤ) (sides : List Bool) (amount : ℕ) : Type 0 where
  pub sound : All (IsPipeOf network.nodes) network.pipes
  pub source_in : network.source < network.nodes
  pub carries : Carries network.pipes network.source network.sink backward amount
  pub levels_are : AreLevels network.pipes network.nodes network.source backward levels
  pub closed : IsClosed network.pipes backward levels
  pub unreached : level_of levels network.sink ≡ 0
  pub flows_are : flows ≡ flows_of network.pipes backward
  pub sides_sized : length sides ≡ network.nodes
  pub sides_are : (n : ℕ) → is_in sides n ≡ nat_lt 0 (level_of levels n)

module _ (network : FlowNetwork) (backward levels : List ℕ) (flows : List ℤ) (sides : List Bool) (amount : ℕ) (h : IsSolved network backward levels flows sides amount) where
  abbrev own : List ℤ
  own = flows_of network.pipes backward

  own_flow : IsFlow network own
  unfolding excess
  own_flow = record {
    sized = length-flows_of network.pipes backward h.carries.residuals.sized;
    fits = λ j lt.
        let e = flow_at-flows_of network.pipes backward j h.carries.residuals.sized lt in
        record { ahead = omega (arith, ints, e, h.carries.residuals.within j lt); back = omega (arith, ints, e) };
    balance = h.carries.balance;
  }

  own_value : flow_value network own ≡ pos amount
  unfolding excess
  own_value = h.carries.leaves

  pub solved_flow : IsFlow network flows
  solved_flow = subst (IsFlow network) (sym h.flows_are) own_flow

  pub solved_value : flow_value network flows ≡ pos amount
  solved_value = ap (flow_value network) h.flows_are ∙ own_value

  pub solved_cut : IsCut network sides
  solved_cut = record {
    sized = h.sides_sized;
    source = h.sides_are network.source ∙ lt-ltb 0 (level_of levels network.source) (omega (arith, h.levels_are.numbers.first));
    sink = h.sides_are network.sink ∙ le-ltb 0 (level_of levels network.sink) (omega (arith, h.unreached));
  }

  own_leaves : (side : ℕ → Bool) → side network.source ≡ true → side network.sink ≡ false → net_leaving side network.pipes own ≡ pos amount
  own_leaves side source sink = value_leaves network own own_flow side source sink h.sound h.source_in ∙ own_value

  own_full : AllFull (is_in sides) network.pipes own
  own_full = shut_full network.pipes backward h.carries.residuals (is_in sides) (λ arc arc_in inside outside. ⊎_elim
      (λ opened.
      let some = ltb-true 0 (level_of levels (tail network.pipes arc)) (sym (h.sides_are (tail network.pipes arc)) ∙ inside) in
      absurd (false≢true (sym outside ∙ h.sides_are (head network.pipes arc) ∙ lt-ltb 0 _ (h.closed arc arc_in some opened))))
      (λ shut. omega arith)
      (cases_lt 0 (residual network.pipes backward arc)))

  pub solved_capacity : cut_capacity network sides ≡ amount
  solved_capacity = omega (arith, ints, own_leaves (is_in sides) solved_cut.source solved_cut.sink, full_leaves (is_in sides) network.pipes own own_flow.sized own_full)

  pub solved_greatest : (other : List ℤ) → IsFlow network other → flow_value network other ≤ℤ pos amount
  solved_greatest other flow =
      omega (arith, ints, value_leaves network other flow (is_in sides) solved_cut.source solved_cut.sink h.sound h.source_in, leaves_le (is_in sides) network.pipes other flow.sized flow.fits, solved_capacity)

  pub solved_least : IsLeastCut network sides
  solved_least = record {
    cut = solved_cut;
    least = λ other cut. omega (arith, ints, own_leaves (is_in other) cut.source cut.sink, leaves_le (is_in other) network.pipes own own_flow.sized own_flow.fits, solved_capacity);
  }

  module _ (other : List Bool) (least : IsLeastCut network other) where
    same_capacity : net_leaving (is_in other) network.pipes own ≡ pos (capacity_out (is_in other) network.pipes)
    same_capacity = omega (arith, ints, own_leaves (is_in other) least.cut.source least.cut.sink, solved_least.least other least.cut, least.least sides solved_cut, solved_capacity)

    other_full : AllFull (is_in other) network.pipes own
    other_full = leaves_full (is_in other) network.pipes own own_flow.sized own_flow.fits same_capacity

    -- what residual arcs reach is in the source side of each least cut
    reached_in : (l n : ℕ) → level_of levels n ≤ l + 1 → 0 < level_of levels n → is_in other n ≡ true
    reached_in zero n low some = ap (is_in other) (h.levels_are.only n (omega arith)) ∙ least.cut.source
    reached_in (suc l) n low some = ⊎_elim
        (λ more.
        let led = h.levels_are.led n more in
        let a = led.1 in
        let before = reached_in l (tail network.pipes led.0) (omega (arith, a.before, low)) (omega (arith, a.before, more)) in
        ⊎_elim (λ inside. inside)
        (λ outside. absurd (omega (
          arith,
          a.open_arc,
          full_shut network.pipes backward h.carries.residuals (is_in other) other_full led.0 a.arc_in before (ap (is_in other) a.enters ∙ outside),
        )))
        (cases_Bool (is_in other n)))
        (λ less. ap (is_in other) (h.levels_are.only n (omega arith)) ∙ least.cut.source)
        (cases_lt 1 (level_of levels n))

    pub solved_smallest : IsContained sides other
    solved_smallest n inside = reached_in (level_of levels n) n (omega arith) (ltb-true 0 (level_of levels n) (sym (h.sides_are n) ∙ inside))

  pub solution : IsSolution network flows sides amount
  solution = record {
    flow = solved_flow;
    value = solved_value;
    cut = solved_cut;
    capacity = solved_capacity;
    greatest = solved_greatest;
    least = solved_least;
    smallest = solved_smallest;
  }

-- the same, where the parts of the network have names of their own
pub solution_at : (network : FlowNetwork) (pipes : List Pipe) (nodes source sink : ℕ) (backward levels : List ℕ) (flows : List ℤ) (sides : List Bool) (amount : ℕ)
    → pipes ≡ network.pipes → nodes ≡ network.nodes → source ≡ network.source → sink ≡ network.sink
    → All (IsPipeOf network.nodes) pipes → source < network.nodes → Carries pipes source sink backward amount → AreLevels pipes nodes source backward levels → IsClosed pipes backward levels
    → level_of levels sink ≡ 0 → flows ≡ flows_of pipes backward → length sides ≡ nodes → ((n : ℕ) → is_in sides n ≡ nat_lt 0 (level_of levels n)) → IsSolution network flows sides amount
solution_at network pipes nodes source sink backward levels flows sides amount same_pipes same_nodes same_source same_sink sound source_in carries levels_are closed unreached flows_are sides_sized sides_are =
    solution network backward levels flows sides amount (record {
      sound = subst (All (IsPipeOf network.nodes)) same_pipes sound;
      source_in = omega (arith, source_in, same_source);
      carries = subst (λ p. Carries p network.source network.sink backward amount) same_pipes
          (subst (λ s. Carries pipes s network.sink backward amount) same_source (subst (λ t. Carries pipes source t backward amount) same_sink carries));
      levels_are = subst (λ p. AreLevels p network.nodes network.source backward levels) same_pipes
          (subst (λ n. AreLevels pipes n network.source backward levels) same_nodes (subst (λ s. AreLevels pipes nodes s backward levels) same_source levels_are));
      closed = subst (λ p. IsClosed p backward levels) same_pipes closed;
      unreached = ap (level_of levels) (sym same_sink) ∙ unreached;
      flows_are = flows_are ∙ ap (λ p. flows_of p backward) same_pipes;
      sides_sized = sides_sized ∙ same_nodes;
      sides_are = sides_are;
    })
