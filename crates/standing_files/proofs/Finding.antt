-- What is found of records that are read one by one: one record more.
use Rattle.std.proofs.Common.{◌≡◌, ◌∙◌, ◌≤◌, ◌<◌, ◌+◌, ℕ, zero, suc, List, [], ◌∷◌, ◌++◌, length, take, refl, sym, ap, subst, arith}
use Rattle.std.proofs.lemmas.Option.{none-some, slice_get_within}
use Rattle.std.specs.Prelude.{Some, slice_get}
use Rattle.shelf_traits.specs.Files.{ShelfState}
use Rattle.file_bytes.specs.Reading.{Reading}
use Rattle.cells.specs.declared.place.Size.{Size}
use Rattle.cells.specs.Cells.{Cells}
use Rattle.map_canvas.specs.Choices.{map_after}
use Rattle.map_canvas.specs.Maps.{SourceMap, empty_map}
use Rattle.source_map.specs.declared.head.Version.{Version}
use Rattle.source_map.specs.Readings.{Found}
use Rattle.cut_check.specs.declared.record.CutFault.{CutFault}
use Rattle.cut_check.specs.declared.record.CutRecord.{CutRecord}
use Rattle.cut_check.specs.Records.{CutStands, IsFirstCutFault, box_cells, setting}
use Rattle.cut_replay.specs.Replay.{EachStands, left_by}
use Rattle.cut_replay.proofs.RunLaws.{each_more, left_more}
use Rattle.strip_boundary.specs.declared.check.BlockFault.{BlockFault}
use Rattle.block_check.specs.declared.block.BlockRecord.{BlockRecord}
use Rattle.block_check.specs.Blocks.{after_block, block_cells}
use Rattle.block_check.specs.Records.{BlockStands, IsFirstBlockFault}
use Rattle.block_check.specs.Several.{EachBlockStands, left_by_blocks}
use Rattle.cert_file.specs.BlockReading.{blocks_read}
use Rattle.cert_file.specs.CutReading.{cuts_read}
use Rattle.standing_files.specs.declared.verdict.Verdict.{Verdict}
use Rattle.standing_files.specs.declared.verdict.Verdict.TheVariants.{Stands, Fails}
use Rattle.standing_files.specs.AsRead.{FindsInBlock, FindsInBlocks, FindsInCut, FindsInCuts, IsFaultAfter}
use Rattle.standing_files.specs.Standing.{IsBrokenBlock, IsBrokenCut}

-- The items of a list that has more after them.

take_front : {A : Type 0} (front more : List A) → take (length front) (front ++ more) ≡ front
take_front [] more = refl
take_front (x ∷ front) more = ap (λ l. x ∷ l) (take_front front more)

take_same : {A : Type 0} (n : ℕ) (front more : List A) → n ≤ length front → take n (front ++ more) ≡ take n front
take_same zero front more le = refl
take_same (suc n) [] more le = absurd (omega (arith, le))
take_same (suc n) (x ∷ front) more le = ap (λ l. x ∷ l) (take_same n front more (omega (arith, le)))

get_same : {A : Type 0} (front more : List A) (n : ℕ) (x : A) → slice_get front n ≡ Some x → slice_get (front ++ more) n ≡ Some x
get_same [] more n x at = absurd (none-some x at)
get_same (y ∷ front) more zero x at = at
get_same (y ∷ front) more (suc n) x at = get_same front more n x at

get_next : {A : Type 0} (front : List A) (x : A) → slice_get (front ++ x ∷ []) (length front) ≡ Some x
get_next [] x = refl
get_next (y ∷ front) x = get_next front x

-- Cut records.

module _ (samples : Cells) (size : Size) (cuts : List CutRecord) (cut : CutRecord) where
  still_broken : (number rule place : ℕ) → IsBrokenCut samples size cuts number rule place → IsBrokenCut samples size (cuts ++ cut ∷ []) number rule place
  still_broken number rule place is =
      let n = is.broken.number in
      let below : n < length cuts = slice_get_within cuts n is.first.cut is.first.at in
      let same : take n (cuts ++ cut ∷ []) ≡ take n cuts = take_same n cuts (cut ∷ []) (omega (arith, below)) in
      record {
        broken = is.broken;
        first = record {
          before = subst (EachStands samples (empty_map size)) (sym same) is.first.before;
          cut = is.first.cut;
          at = get_same cuts (cut ∷ []) n is.first.cut is.first.at;
          breaks = subst (λ front. IsFirstCutFault (setting (left_by (empty_map size) front) samples []) is.first.cut is.broken.fault) (sym same) is.first.breaks;
        };
        number_is = is.number_is;
        rule_is = is.rule_is;
        place_is = is.place_is;
      }

  broken_next : (i : ℕ) → length cuts ≡ i → (was : SourceMap) → was ≡ left_by (empty_map size) cuts → EachStands samples (empty_map size) cuts → (fault : CutFault) → IsFirstCutFault (setting was samples []) cut fault
      → (number rule place : ℕ) → IsFaultAfter i fault.kind fault.place number rule place → IsBrokenCut samples size (cuts ++ cut ∷ []) number rule place
  broken_next i count was left stand fault breaks number rule place is =
      let same = take_front cuts (cut ∷ []) in
      record {
        broken = record { number = length cuts; fault = fault };
        first = record {
          before = subst (EachStands samples (empty_map size)) (sym same) stand;
          cut = cut;
          at = get_next cuts cut;
          breaks = subst (λ front. IsFirstCutFault (setting (left_by (empty_map size) front) samples []) cut fault) (sym same) (subst (λ m. IsFirstCutFault (setting m samples []) cut fault) left breaks);
        };
        number_is = is.number_is ∙ ap (λ n. n + 1) (sym count);
        rule_is = is.rule_is;
        place_is = is.place_is;
      }

  pub cut_found : (i : ℕ) → length cuts ≡ i → (was left : SourceMap) (start before after : Verdict) → FindsInCuts samples size start was cuts before → FindsInCut samples was i before left cut after
      → FindsInCuts samples size start left (cuts ++ cut ∷ []) after
  cut_found i count was left (Fails number rule place) before after so next = subst (λ v. FindsInCut samples was i v left cut after) so next
  cut_found i count was left Stands (Fails number rule place) after so next =
      subst (λ v. FindsInCuts samples size Stands left (cuts ++ cut ∷ []) v) (sym next) (still_broken number rule place so)
  cut_found i count was left Stands Stands (Fails number rule place) so next = broken_next i count was so.1 so.0 next.0 next.1 number rule place next.2
  cut_found i count was left Stands Stands Stands so next = (
    each_more (λ m cut. CutStands (setting m samples []) cut) (empty_map size) cuts cut so.0 (subst (λ m. CutStands (setting m samples []) cut) so.1 next.0),
    next.1 ∙ ap (λ m. map_after m cut.placement cut.choice) so.1 ∙ sym (left_more (empty_map size) cuts cut),
  )

-- what was read of cut records, and found of them
pub record CutsSoFar (name : List ℕ) (place : ℕ) (now : ShelfState) (r : Reading) (version : Version) (sizes : List Size) (i cells : ℕ) (samples : Cells) (size : Size) (start : Verdict) (left : SourceMap) (verdict : Verdict) : Type 0 where
  pub cuts : List CutRecord
  pub count : length cuts ≡ i
  pub cells_are : cells ≡ box_cells cuts
  pub found : Found name place now r (cuts_read version sizes i) cuts
  pub judged : FindsInCuts samples size start left cuts verdict

-- Block records.

blocks_left_more : (m : SourceMap) (blocks : List BlockRecord) (block : BlockRecord) → left_by_blocks m (blocks ++ block ∷ []) ≡ after_block (left_by_blocks m blocks) block
blocks_left_more m [] block = refl
blocks_left_more m (first ∷ blocks) block = blocks_left_more (after_block m first) blocks block

blocks_stand_more : (sample : Cells) (m : SourceMap) (blocks : List BlockRecord) (block : BlockRecord) → EachBlockStands sample m blocks → BlockStands (left_by_blocks m blocks) sample block → EachBlockStands sample m (blocks ++ block ∷ [])
blocks_stand_more sample m [] block each stands = (stands, tt)
blocks_stand_more sample m (first ∷ blocks) block each stands = (each.0, blocks_stand_more sample (after_block m first) blocks block each.1 stands)

module _ (sample : Cells) (size : Size) (blocks : List BlockRecord) (block : BlockRecord) where
  block_still_broken : (number rule place : ℕ) → IsBrokenBlock sample size blocks number rule place → IsBrokenBlock sample size (blocks ++ block ∷ []) number rule place
  block_still_broken number rule place is =
      let n = is.broken.number in
      let below : n < length blocks = slice_get_within blocks n is.first.block is.first.at in
      let same : take n (blocks ++ block ∷ []) ≡ take n blocks = take_same n blocks (block ∷ []) (omega (arith, below)) in
      record {
        broken = is.broken;
        first = record {
          before = subst (EachBlockStands sample (empty_map size)) (sym same) is.first.before;
          block = is.first.block;
          at = get_same blocks (block ∷ []) n is.first.block is.first.at;
          breaks = subst (λ front. IsFirstBlockFault (left_by_blocks (empty_map size) front) sample is.first.block is.broken.fault) (sym same) is.first.breaks;
        };
        number_is = is.number_is;
        rule_is = is.rule_is;
        place_is = is.place_is;
      }

  block_broken_next : (i : ℕ) → length blocks ≡ i → (was : SourceMap) → was ≡ left_by_blocks (empty_map size) blocks → EachBlockStands sample (empty_map size) blocks → (fault : BlockFault) → IsFirstBlockFault was sample block fault
      → (number rule place : ℕ) → IsFaultAfter i fault.kind fault.place number rule place → IsBrokenBlock sample size (blocks ++ block ∷ []) number rule place
  block_broken_next i count was left stand fault breaks number rule place is =
      let same = take_front blocks (block ∷ []) in
      record {
        broken = record { number = length blocks; fault = fault };
        first = record {
          before = subst (EachBlockStands sample (empty_map size)) (sym same) stand;
          block = block;
          at = get_next blocks block;
          breaks = subst (λ front. IsFirstBlockFault (left_by_blocks (empty_map size) front) sample block fault) (sym same) (subst (λ m. IsFirstBlockFault m sample block fault) left breaks);
        };
        number_is = is.number_is ∙ ap (λ n. n + 1) (sym count);
        rule_is = is.rule_is;
        place_is = is.place_is;
      }

  pub block_found : (i : ℕ) → length blocks ≡ i → (was left : SourceMap) (start before after : Verdict) → FindsInBlocks sample size start was blocks before → FindsInBlock sample was i before left block after
      → FindsInBlocks sample size start left (blocks ++ block ∷ []) after
  block_found i count was left (Fails number rule place) before after so next = subst (λ v. FindsInBlock sample was i v left block after) so next
  block_found i count was left Stands (Fails number rule place) after so next =
      subst (λ v. FindsInBlocks sample size Stands left (blocks ++ block ∷ []) v) (sym next) (block_still_broken number rule place so)
  block_found i count was left Stands Stands (Fails number rule place) so next = block_broken_next i count was so.1 so.0 next.0 next.1 number rule place next.2
  block_found i count was left Stands Stands Stands so next = (
    blocks_stand_more sample (empty_map size) blocks block so.0 (subst (λ m. BlockStands m sample block) so.1 next.0),
    next.1 ∙ ap (λ m. after_block m block) so.1 ∙ sym (blocks_left_more (empty_map size) blocks block),
  )

-- what was read of block records, and found of them
pub record BlocksSoFar (name : List ℕ) (place : ℕ) (now : ShelfState) (r : Reading) (i cells : ℕ) (sample : Cells) (size : Size) (start : Verdict) (left : SourceMap) (verdict : Verdict) : Type 0 where
  pub blocks : List BlockRecord
  pub count : length blocks ≡ i
  pub cells_are : cells ≡ block_cells blocks
  pub found : Found name place now r (blocks_read i) blocks
  pub judged : FindsInBlocks sample size start left blocks verdict

-- where records are judged, nothing was broken before
pub judged_from_start : (sample : Cells) (size : Size) (start : Verdict) (left : SourceMap) (blocks : List BlockRecord) (verdict : Verdict) → FindsInBlocks sample size start left blocks verdict → verdict ≡ Stands → start ≡ Stands
judged_from_start sample size Stands left blocks verdict so is = refl
judged_from_start sample size (Fails number rule place) left blocks verdict so is = absurd (cc)
