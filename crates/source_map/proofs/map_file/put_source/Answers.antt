use Rattle.std.proofs.Common.{arith}
use Rattle.std.proofs.lemmas.Grind.{common_steps}
use Rattle.source_map.proofs.MapWriting.{one_short, part_low, part_short}
use Rattle.source_map.proofs.map_file.put_source.Goals as goal

pub place_bytes-requires : goal.place_bytes-requires
place_bytes-requires g c =
    one_short c.args.samples.now c.args.from c.requires.inside.0 c.requires.samples.sizes_are (c.requires.samples.one c.in-One.is) c.requires.inside.1

pub numbered_bytes-requires : goal.numbered_bytes-requires
numbered_bytes-requires g c = record {
  short = part_short c.args.samples.now c.args.from c.place_of.result c.requires.samples.sizes_are c.place_of.ensures.part;
  number = part_low c.args.samples.now c.args.from c.place_of.result c.requires.samples.sizes_are c.place_of.ensures.part;
}

pub returns-in-Two : goal.returns-in-Two
returns-in-Two g c = grind (arith, common_steps)

pub returns-in-One : goal.returns-in-One
returns-in-One g c = grind (arith, common_steps)
