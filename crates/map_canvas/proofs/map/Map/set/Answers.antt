use Rattle.std.proofs.Common.{arith}
use Rattle.std.proofs.lemmas.Grind.{common_steps}
use Rattle.std.proofs.Common.{ap, sym, ◌∙◌, subst}
use Rattle.std.proofs.Math.ListN.{set}
use Rattle.std.specs.Prelude.{Some, IsSome}
use Rattle.cells.specs.Places.{IsInside}
use Rattle.cells.specs.Cells.{set_nth}
use Rattle.map_canvas.specs.Maps.{SourceMap, with_source}
use Rattle.map_canvas.proofs.map.Map.set.Goals as goal

pub unwrap-i-requires : goal.unwrap-i-requires
unwrap-i-requires c = subst IsSome (sym c.index_of.ensures.index) (subst (λ (s : SourceMap). IsInside s.size c.args.p) (sym c.self.view_is) c.requires.inside)

pub returns : goal.returns
returns c =
    let m : SourceMap = record { size = c.self.inside.size; sources = c.self.inside.sources.items } in
    (λ k. record { size = m.size; sources = set m.sources c.unwrap-i.result (c.new.ensures k) })
    ∙ (λ k. record { size = m.size; sources = set_nth m.sources ((sym c.unwrap-i.ensures ∙ c.index_of.ensures.index) k) (Some c.args.from) })
    ∙ ap (λ (n : SourceMap). with_source n c.args.p c.args.from) c.self.view_is

pub invariant_of-self : goal.invariant_of-self
invariant_of-self c = grind (arith, common_steps)
