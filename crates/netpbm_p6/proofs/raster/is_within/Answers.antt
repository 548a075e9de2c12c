use Rattle.std.proofs.Common.{below_more, arith}
use Rattle.std.proofs.lemmas.Bool.{leb-true, le-leb}
use Rattle.std.proofs.lemmas.List.{get_or_default}
use Rattle.netpbm_p6.proofs.raster.is_within.Goals as goal

pub loop-byte-preserved : goal.loop-byte-preserved
loop-byte-preserved c = record {
  bound = below_more _ _ (λ k below. omega (arith, c.loop-byte.invariant.bound k below)) (omega arith);
  least = λ m each. omega (arith, c.loop-byte.invariant.least m (λ k below. each k (omega arith)), each c.loop-byte.byte-index (omega arith));
}

pub returns : goal.returns
returns c = (
  λ within k d below.
      rw (get_or_default c.args.bytes.now k d 0 below)
      (omega (arith, c.loop-byte.invariant.bound k (omega arith), leb-true c.loop-byte.greatest c.args.maxval within)),
  λ each. le-leb c.loop-byte.greatest c.args.maxval (c.loop-byte.invariant.least c.args.maxval (λ k below. each k 0 (omega arith))),
)
