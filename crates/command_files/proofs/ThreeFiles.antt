-- The three files that a run writes: each holds its text, and all others are as before.
use Rattle.std.proofs.Common.{◌≡◌, ◌≢◌, ℕ, suc, ◌<◌, ◌+◌, List, [], ◌∷◌, length, refl, ap, sym, ◌∙◌, arith, length-append}
use Rattle.std.proofs.lemmas.List.{get_or-append-add, get_or_append_left}
use Rattle.std.specs.Prelude.{get_or, unwrap_or}
use Rattle.std.specs.FinMap.{get, insert}
use Rattle.shelf_traits.specs.Files.{Files, content_of}
use Rattle.shelf_traits.proofs.FileLaws.{content_beside, content_inserted, get_beside}
use Rattle.job_words.specs.declared.job.Names.{Names}
use Rattle.job_words.specs.Names.{AreNames, name_list}
use Rattle.sample_files.specs.Several.{contents}

-- the contents of files that are as before
same_contents : (before after : Files) (names : List (List ℕ)) → ((i : ℕ) → i < length names → content_of after (get_or names i []) ≡ content_of before (get_or names i [])) → contents after names ≡ contents before names
same_contents before after [] same = refl
same_contents before after (name ∷ names) same =
    let rest = same_contents before after names (λ i lt. same (suc i) (omega (arith, lt))) in
    let here : content_of after name ≡ content_of before name = same 0 (omega arith) in
    λ i. here i ∷ rest i

module _ (names : Names) (lawful : AreNames (name_list names)) where
  abbrev written_names : List (List ℕ)
  written_names = names.out ∷ names.map ∷ names.record_file ∷ []

  -- the three names that are written differ
  apart : (i j : ℕ) → i < j → j < 3 → get_or written_names i [] ≢ get_or written_names j []
  apart i j lt below =
      let k : ℕ = length (names.sample ∷ names.more) in
      let at : (n : ℕ) → get_or (name_list names) (k + n) [] ≡ get_or written_names n [] = λ n. get_or-append-add (names.sample ∷ names.more) written_names n [] in
      let differ = lawful.apart (k + i) (k + j) [] (omega (arith, lt)) (omega (arith, below, length-append names.more written_names)) in
      λ same. differ (at i ∙ same ∙ sym (at j))

  out_not_map : names.out ≢ names.map
  out_not_map = apart 0 1 (omega arith) (omega arith)

  out_not_record : names.out ≢ names.record_file
  out_not_record = apart 0 2 (omega arith) (omega arith)

  map_not_record : names.map ≢ names.record_file
  map_not_record = apart 1 2 (omega arith) (omega arith)

  -- and no sample is one of them
  abbrev read_names : List (List ℕ)
  read_names = names.sample ∷ names.more

  read_apart : (i j : ℕ) → i < length read_names → j < 3 → get_or read_names i [] ≢ get_or written_names j []
  read_apart i j lt below =
      let differ = lawful.apart i (length read_names + j) [] (omega (arith, lt)) (omega (arith, below, length-append names.more written_names)) in
      λ same. differ (get_or_append_left read_names written_names [] i lt ∙ same ∙ sym (get_or-append-add read_names written_names j []))

  module _ (before after : Files) (out_text map_text record_file_text : List ℕ) (whole : after ≡ insert (insert (insert before names.out out_text) names.map map_text) names.record_file record_file_text) where
    abbrev with_out : Files
    with_out = insert before names.out out_text

    abbrev with_map : Files
    with_map = insert with_out names.map map_text

    pub others_stay : (name : List ℕ) → name ≢ names.out → name ≢ names.map → name ≢ names.record_file → get after name ≡ get before name
    others_stay name not_out not_map not_record =
        ap (λ files. get files name) whole ∙ get_beside with_map names.record_file record_file_text name not_record ∙ get_beside with_out names.map map_text name not_map ∙ get_beside before names.out out_text name not_out

    read_stays : (i : ℕ) → i < length read_names → content_of after (get_or read_names i []) ≡ content_of before (get_or read_names i [])
    read_stays i lt = ap (λ o. unwrap_or o []) (others_stay (get_or read_names i []) (read_apart i 0 lt (omega arith)) (read_apart i 1 lt (omega arith)) (read_apart i 2 lt (omega arith)))

    pub sample_stays : content_of after names.sample ≡ content_of before names.sample
    sample_stays = read_stays 0 (omega arith)

    pub more_stay : contents after names.more ≡ contents before names.more
    more_stay = same_contents before after names.more (λ i lt. read_stays (suc i) (omega (arith, lt)))

    pub out_holds : content_of after names.out ≡ out_text
    out_holds = ap (λ files. content_of files names.out) whole ∙ content_beside with_map names.record_file record_file_text names.out out_not_record ∙ content_beside with_out names.map map_text names.out out_not_map ∙ content_inserted before names.out out_text

    pub map_holds : content_of after names.map ≡ map_text
    map_holds = ap (λ files. content_of files names.map) whole ∙ content_beside with_map names.record_file record_file_text names.map map_not_record ∙ content_inserted with_out names.map map_text

    pub record_file_holds : content_of after names.record_file ≡ record_file_text
    record_file_holds = ap (λ files. content_of files names.record_file) whole ∙ content_inserted with_map names.record_file record_file_text

-- the names of a run hold these texts, and all others are as before
pub record HoldThree (names : Names) (before after : Files) (out_text map_text record_file_text : List ℕ) : Type 0 where
  pub out : content_of after names.out ≡ out_text
  pub map : content_of after names.map ≡ map_text
  pub record_file : content_of after names.record_file ≡ record_file_text
  pub sample : content_of after names.sample ≡ content_of before names.sample
  pub more : contents after names.more ≡ contents before names.more
  pub others : (name : List ℕ) → name ≢ names.out → name ≢ names.map → name ≢ names.record_file → get after name ≡ get before name

pub three_files : (names : Names) → AreNames (name_list names) → (before after : Files) (out_text map_text record_file_text : List ℕ) → after ≡ insert (insert (insert before names.out out_text) names.map map_text) names.record_file record_file_text
    → HoldThree names before after out_text map_text record_file_text
three_files names lawful before after out_text map_text record_file_text whole = record {
  out = out_holds names lawful before after out_text map_text record_file_text whole;
  map = map_holds names lawful before after out_text map_text record_file_text whole;
  record_file = record_file_holds names lawful before after out_text map_text record_file_text whole;
  sample = sample_stays names lawful before after out_text map_text record_file_text whole;
  more = more_stay names lawful before after out_text map_text record_file_text whole;
  others = others_stay names lawful before after out_text map_text record_file_text whole;
}
