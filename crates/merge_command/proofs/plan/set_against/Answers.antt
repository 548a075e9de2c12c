use Rattle.std.proofs.Common.{inl, refl, sym, ◌∙◌}
use mathlib.Core.Bool.{false≢true}
use Rattle.merge_command.proofs.plan.set_against.Goals as goal

pub returns-then-not-is_sized : goal.returns-then-not-is_sized
returns-then-not-is_sized c = inl (record { unlike = λ same. false≢true (sym c.if-not-is_sized.true ∙ c.is_sized.ensures.1 same); is = refl })
