use Rattle.std.proofs.Common.{arith, refl}
use Rattle.std.proofs.lemmas.Int.{ints}
use Rattle.cert_file.proofs.block_fields.spot_of.Goals as goal

pub returns-clause-short : goal.returns-clause-short
returns-clause-short c =
    record {
      short = record { x = (omega (arith, ints, c.from.ensures), omega (arith, ints, c.from.ensures, c.from_be_bytes.type_inv)); y = (omega (arith, ints, c.from-2.ensures), omega (arith, ints, c.from-2.ensures, c.from_be_bytes-2.type_inv)); f = (omega (arith, ints), omega (arith, ints)) };
      frame = refl;
    }
