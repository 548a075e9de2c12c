use Rattle.std.proofs.Common.{rules, subst, ◌∙◌, ◌+◌}
use Rattle.byte_streams.specs.Places.{IsAt, ReadsSome}
use Rattle.byte_streams.proofs.SoFar.{read_more}
use Rattle.byte_streams.proofs.input.read_on.Goals as goal

pub parts-preserved : goal.parts-preserved
parts-preserved g c =
    let inv = c.parts.invariant in
    let read = c.in_ok-more.ensures in
    let place = g.F.InputFile.place c.parts.file in
    let now = g.F.InputFile.place c.read_some.new.self in
    record {
      same_length = search rules;
      within = search rules;
      kept = read.kept ∙ inv.kept;
      read = read_more _ _ place now c.parts.n c.in_ok-more.more _ c.parts.into c.read_some.new.into inv.within (search rules) inv.read
          (subst (λ bytes. ReadsSome bytes place c.read_some.new.into c.in_ok-more.more) inv.kept read.read)
          (subst (λ bytes. IsAt bytes now (place + c.in_ok-more.more)) inv.kept read.moved);
    }
