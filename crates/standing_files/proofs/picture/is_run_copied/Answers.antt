use Rattle.std.proofs.Common.{◌≡◌, ℕ, List, sym, subst}
use Rattle.std.specs.Prelude.{Some}
use Rattle.cells.specs.Places.{plus, spot}
use Rattle.source_map.specs.MapFiles.{frame_source}
use Rattle.source_map.specs.declared.map_file.MapFile.{MapFile}
use Rattle.standing_files.specs.Standing.{IsCopied, named_source}
use Rattle.standing_files.proofs.RunLaws.{source_along}
use Rattle.standing_files.proofs.picture.is_run_copied.Goals as goal

pub returns-in-Some : goal.returns-in-Some
returns-in-Some c = λ yes j lt.
    let p = c.args.p in
    let there = plus p (spot j 0 0) in
    let from = c.in-Some.from in
    let frames = c.in-Frames.frames in
    let named : frame_source frames p ≡ Some from = subst (λ (frames : List ℕ). frame_source frames p ≡ Some from) c.as_slice.ensures (sym c.in-Some.ensures) in
    subst (λ (m : MapFile). IsCopied c.args.samples.now c.args.picture.now (named_source m there) there) (sym c.in-Frames.is) (record {
      from = plus from (spot j 0 0);
      named = source_along frames p from j named;
      same = c.is_run_same.ensures yes j lt;
    })
