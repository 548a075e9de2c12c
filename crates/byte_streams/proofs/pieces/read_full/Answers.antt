use Rattle.std.proofs.Common.{rules, subst}
use Rattle.std.specs.Io.KnownBytes.{Consumes}
use Rattle.std.proofs.KnownBytes.{Consumes-trans}
use Rattle.byte_streams.proofs.Filled.{filled}
use Rattle.byte_streams.proofs.pieces.read_full.Goals as goal

pub parts-preserved : goal.parts-preserved
parts-preserved g c =
    let within = c.parts.invariant.1 in
    let fits = c.in_ok-more.ensures.within in
    (search rules, search rules, subst (Consumes _ _) (filled c.parts.n c.in_ok-more.more _ c.parts.into c.read_some.new.into within (search rules)) (Consumes-trans _ _ _ _ _ c.parts.invariant.2 c.in_ok-more.ensures.bytes))
