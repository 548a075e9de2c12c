use Rattle.std.proofs.Common.{arith}
use Rattle.std.proofs.lemmas.Int.{ints}
use Rattle.cert_file.proofs.cut_fields.corner_of.Goals as goal

pub returns-clause-short : goal.returns-clause-short
returns-clause-short c =
    record {
      x = (omega (arith, ints, c.from.ensures), omega (arith, ints, c.from.ensures, c.from_be_bytes.type_inv));
      y = (omega (arith, ints, c.from-2.ensures), omega (arith, ints, c.from-2.ensures, c.from_be_bytes-2.type_inv));
      f = (omega (arith, ints, c.from-3.ensures), omega (arith, ints, c.from-3.ensures, c.from_be_bytes-3.type_inv));
    }
