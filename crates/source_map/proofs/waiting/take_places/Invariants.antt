use Rattle.std.proofs.Common.{◌≡◌, ◌+◌, ◌*◌}
use Rattle.std.specs.Prelude.{vec_len, vec_capacity}
use Rattle.source_map.specs.declared.head.Version.TheVariants.{One}
use Rattle.source_map.specs.MapFiles.{source_read}
use Rattle.source_map.specs.Waiting.{AreSourcesIn, ExtendsIn}
use Rattle.source_map.proofs.waiting.take_places.Given as goal

abbrev pub invariant-loop-n : goal.invariant-loop-n
invariant-loop-n l = record {
  count : vec_len l.sources ≡ vec_len l.fn.sources + l.n;
  capacity : vec_capacity l.sources ≡ vec_capacity l.fn.sources;
  grows : ExtendsIn (source_read One l.samples) l.waiting (6 * l.n) l.fn.sources.items l.sources.items;
  sources : AreSourcesIn l.samples l.fn.sources.items → AreSourcesIn l.samples l.sources.items;
}
