-- The samples read so far, and how the reading ends.
use Rattle.std.proofs.Common.{◌≡◌, ℕ, zero, suc, ◌+◌, ◌*◌, ◌<◌, ◌≤◌, inl, inr, ◌++◌, List, [], ◌∷◌, length, get_or, take, refl, sym, ap, ◌∙◌, subst, arith, true, add-one}
use Rattle.std.specs.Prelude.{slice_get, Some, Result, Ok, Err}
use Rattle.std.specs.List.{AllByRecursion}
use Rattle.std.proofs.Math.Seq.{take-suc}
use Rattle.std.proofs.Common.{length-append}
use Rattle.std.proofs.lemmas.List.{length-map, length-take-le}
use Rattle.std.proofs.lemmas.Option.{slice_get-map, slice_get_read}
use Rattle.limits.specs.declared.bounds.TheConstants.{MOST_PARTS, MOST_SAMPLE_CELLS}
use Rattle.turned.specs.declared.turn.TheConstants.{TURNS}
use Rattle.cells.specs.declared.place.Size.{Size}
use Rattle.cells.specs.Cells.{Cells, count_of, sizes_of, with_part}
use Rattle.cells.specs.PartLists.{parts_of}
use Rattle.cells.proofs.Joining.{count_behind}
use Rattle.shelf_traits.specs.declared.fault.What.TheVariants.{Cells as CellsLimit}
use Rattle.shelf_traits.specs.Files.{Files, ShelfState, OnlyReads, OnlyReadsFile, Changes, content_of}
use Rattle.shelf_traits.proofs.FileLaws.{among_head, only_reads_of_more, rose_later, told_both, told_then, told_weaker}
use Rattle.synth_report.specs.declared.fault.FileOf.TheVariants as part
use Rattle.synth_report.specs.declared.fault.Fault.{Fault}
use Rattle.synth_report.specs.declared.fault.Fault.TheVariants.{Words, Form as FormFault, Unlike, Mark, Limit, Read, Write, NoMemory, NoLoop}
use Rattle.command.specs.Commands.{named, names_in}
use Rattle.command.proofs.Asking.{turn_among}
use Rattle.sample_files.specs.declared.form.Form.{Form}
use Rattle.sample_files.specs.declared.sample.Sample.{Sample}
use Rattle.sample_files.specs.declared.several.Asked.{Asked}
use Rattle.sample_files.specs.declared.several.Samples.{Samples}
use Rattle.sample_files.specs.Samples.{IsPictureForm, IsSampleIn, IsSoundIn, StandsIn, can_turn}
use Rattle.sample_files.specs.Several.{AreSoundSamples, AreSoundSeveral, GoesAfter, MayRefuseSamples, NoneRefusedOf, RefusesFirst, RefusesNext, RefusesSeveral, SeveralAreRefused, SeveralReadAs, StandAlike, StandForParts, StandForSeveral, StandsAlike, contents, numbered_files, sample_files, with_turns}
use Rattle.sample_files.specs.Steps.{IsFirstRead, IsFirstRefused, IsJoined, IsNextRead, IsNextRefused, IsSoundRead, IsStarted, Joins, NextReadsAs, NotFirst, NotNext}
use Rattle.sample_files.proofs.OneSample.{count_alone, each_behind, sound_alone, sound_count, sound_first, sound_joined}
use Rattle.sample_files.proofs.Joined.{first_part_size, parts_alone}
use Rattle.sample_files.proofs.OneAnswer.{none_at_first, none_refused}
use Rattle.sample_files.proofs.Turning.{with_turns-least}

-- Joining.

pub joined : (asked : Asked) (samples : Samples) (sample : Sample) (after : Samples) → AreSoundSeveral asked samples → IsSoundRead asked sample → GoesAfter asked samples sample
    → with_turns asked.turns (count_of samples.volume + count_of sample.volume) ≤ MOST_SAMPLE_CELLS → after.form ≡ samples.form → after.volume ≡ with_part samples.volume sample.volume
    → parts_of after.volume ≡ parts_of samples.volume ++ sample.volume ∷ [] → IsJoined asked samples sample after
joined asked samples sample after s p goes fits form volume parts = record {
  goes = goes;
  form = form;
  sizes = ap sizes_of volume;
  parts = parts;
  so_far = subst (AreSoundSeveral asked) (sym after_is) (record {
    sound = record {
      form = sound_joined samples.form sample.form samples.volume sample.volume goes.alike s.sound.form p.sound;
      fits = with_turns-least asked.turns (count_of (with_part samples.volume sample.volume)) MOST_SAMPLE_CELLS within;
    };
    fits = within;
    pictures = s.pictures;
    one_size = λ on. each_behind (λ (size : Size). size ≡ samples.volume.size) samples.volume.more sample.volume.size (s.one_size on) (goes.sized on);
  });
}
  where
    after_is : after ≡ record { form = samples.form; volume = with_part samples.volume sample.volume }
    after_is = ap (λ f. record after { form = f }) form ∙ ap (λ v. record { form = samples.form; volume = v }) volume

    count : count_of samples.volume + count_of sample.volume ≡ count_of (with_part samples.volume sample.volume)
    count = (let more = count_behind samples.volume.size samples.volume.more sample.volume.size in
        let alone = count_alone sample.volume (sound_alone sample.form sample.volume p.sound) in
        omega (arith, more, alone))

    within : with_turns asked.turns (count_of (with_part samples.volume sample.volume)) ≤ MOST_SAMPLE_CELLS
    within = subst (λ n. with_turns asked.turns n ≤ MOST_SAMPLE_CELLS) count fits

-- One sample more stands.

alike_behind : (asked : Asked) (form : Form) (size : Size) (files : List (List ℕ)) (parts : List Cells) (bytes : List ℕ) (own : Cells) → StandAlike asked form size files parts → StandsAlike asked form size bytes own
    → StandAlike asked form size (files ++ bytes ∷ []) (parts ++ own ∷ [])
alike_behind asked form size [] [] bytes own a here = (here, tt)
alike_behind asked form size [] (p ∷ parts) bytes own a here = absurd a
alike_behind asked form size (file ∷ files) [] bytes own a here = absurd a
alike_behind asked form size (file ∷ files) (p ∷ parts) bytes own a here = (a.0, alike_behind asked form size files parts bytes own a.1 here)

parts_behind : (asked : Asked) (form : Form) (size : Size) (first : List ℕ) (files : List (List ℕ)) (parts : List Cells) (bytes : List ℕ) (own : Cells) → ((p : Cells) (rest : List Cells) → p ∷ rest ≡ parts → p.size ≡ size)
    → StandForParts asked form first files parts → StandsAlike asked form size bytes own → StandForParts asked form first (files ++ bytes ∷ []) (parts ++ own ∷ [])
parts_behind asked form size first files [] bytes own its a here = absurd a
parts_behind asked form size first files (p ∷ parts) bytes own its a here =
    (a.0, alike_behind asked form p.size files parts bytes own a.1 (subst (λ s. StandsAlike asked form s bytes own) (sym (its p parts refl)) here))

stand_more : (asked : Asked) (first : List ℕ) (files : List (List ℕ)) (bytes : List ℕ) (before after : Samples) (sample : Sample) → StandForSeveral asked first files before → IsSampleIn asked.pictures bytes sample
    → IsJoined asked before sample after → (asked.turns ≡ true → TURNS * (length (files ++ bytes ∷ []) + 1) ≤ MOST_PARTS) → StandForSeveral asked first (files ++ bytes ∷ []) after
stand_more asked first files bytes before after sample a read j few = record {
  parts = subst (λ f. StandForParts asked f first (files ++ bytes ∷ []) (parts_of after.volume)) (sym j.form)
      (subst (StandForParts asked before.form first (files ++ bytes ∷ [])) (sym j.parts)
      (parts_behind asked before.form before.volume.size first files (parts_of before.volume) bytes sample.volume (λ p rest is. first_part_size before.volume p rest is) a.parts
      (record { own = sample.form; goes = j.goes; stands = read })));
  few = few;
  pixels = λ is. subst (λ f. can_turn f ≡ true) (sym j.form) (a.pixels is);
  fits = j.so_far.fits;
}

-- the samples of the first file
stand_first : (asked : Asked) (bytes : List ℕ) (sample : Sample) (samples : Samples) → IsSampleIn asked.pictures bytes sample → IsStarted asked sample samples → StandForSeveral asked bytes [] samples
stand_first asked bytes sample samples read started = record {
  parts = subst (StandForParts asked samples.form bytes []) (sym (parts_alone samples.volume started.one))
      (subst (λ f. StandsIn asked.pictures bytes f samples.volume) (sym started.form) (subst (StandsIn asked.pictures bytes sample.form) (sym started.volume) read), tt);
  few = λ is. omega arith;
  pixels = λ is. subst (λ f. can_turn f ≡ true) (sym started.form) (started.pixels is);
  fits = started.so_far.fits;
}

pub sound_start : (form : Form) (volume : Cells) → IsSoundIn form volume → AreSoundSamples (record { form = form; volume = volume })
sound_start form volume s = record { form = sound_first form volume s; fits = sound_count form volume s }

pub several_start : (asked : Asked) (form : Form) (volume : Cells) → IsSoundIn form volume → (asked.pictures ≡ true → IsPictureForm form) → with_turns asked.turns (count_of volume) ≤ MOST_SAMPLE_CELLS
    → AreSoundSeveral asked (record { form = form; volume = volume })
several_start asked form volume s pictures fits = record {
  sound = sound_start form volume s;
  fits = fits;
  pictures = pictures;
  one_size = λ on. subst (AllByRecursion (λ (size : Size). size ≡ volume.size)) (sym (sound_alone form volume s)) tt;
}

contents_more : (files : Files) (names : List (List ℕ)) (i : ℕ) (name : List ℕ) → i < length names → name ≡ get_or names i name → contents files (take (i + 1) names) ≡ contents files (take i names) ++ content_of files name ∷ []
contents_more files names i name lt is =
    ap (λ k. contents files (take k names)) (add-one i) ∙ ap (contents files) (take-suc names i name lt)
    ∙ ap (λ n. contents files (take i names ++ n ∷ [])) (sym is) ∙ map_append (take i names)
  where
    map_append : (xs : List (List ℕ)) → contents files (xs ++ name ∷ []) ≡ contents files xs ++ content_of files name ∷ []
    map_append [] = refl
    map_append (x ∷ xs) = ap (λ ys. content_of files x ∷ ys) (map_append xs)

-- Reading.

abbrev pub AreReadSoFar : Asked → List ℕ → List (List ℕ) → Samples → ShelfState → ShelfState → Type 0
AreReadSoFar asked first names samples was now = Changes was now (λ before after. StandForSeveral asked (content_of before first) (contents before names) samples)

module _ {those : List (List ℕ)} (was mid now : ShelfState) (reads : OnlyReads those was mid) where
  -- what is known of the files as they are is known of them as they were
  later : (P : Files → Type 0) → Changes mid now (λ before after. P before) → Changes was now (λ before after. P before)
  later P known = told_then (λ before after. after ≡ before) (λ before after. P before) (λ before after. P before) was.files mid.files now.files
      (λ x y z same p. subst P same p) reads.files known

  pub read_more : (asked : Asked) (first : List ℕ) (names : List (List ℕ)) (i : ℕ) (name : List ℕ) (before after : Samples) → i < length names → name ≡ get_or names i name
      → (asked.turns ≡ true → TURNS * (length names + 1) ≤ MOST_PARTS) → AreReadSoFar asked first (take i names) before was mid → IsNextRead asked before name mid now after → AreReadSoFar asked first (take (i + 1) names) after was now
  read_more asked first names i name before after lt is few so_far next =
      told_then (λ x y. (y ≡ x) × StandForSeveral asked (content_of x first) (contents x (take i names)) before) (λ x y. IsSampleIn asked.pictures (content_of x name) next.sample)
      (λ x y. StandForSeveral asked (content_of x first) (contents x (take (i + 1) names)) after) was.files mid.files now.files
      (λ x y z same read. subst (λ files. StandForSeveral asked (content_of x first) files after) (sym (contents_more x names i name lt is))
      (stand_more asked (content_of x first) (contents x (take i names)) (content_of x name) before after next.sample same.1 (subst (λ f. IsSampleIn asked.pictures (content_of f name) next.sample) same.0 read) next.joined (few_so_far x)))
      (told_both (λ x y. y ≡ x) (λ x y. StandForSeveral asked (content_of x first) (contents x (take i names)) before) was.files mid.files reads.files so_far) next.read
    where
      few_so_far : (x : Files) → asked.turns ≡ true → TURNS * (length (contents x (take i names) ++ content_of x name ∷ []) + 1) ≤ MOST_PARTS
      few_so_far x on =
          let so_many = length-append (contents x (take i names)) (content_of x name ∷ []) in
          let mapped = length-map (take i names) (content_of x) in
          let taken = length-take-le i names (omega (arith, lt)) in
          let all = few on in
          omega (arith, so_many, mapped, taken, all, lt)

numbered : (names : List (List ℕ)) (n i : ℕ) (name : List ℕ) → slice_get names i ≡ Some name → slice_get (numbered_files n names) i ≡ Some (named (part.More (n + i)) name)
numbered [] n i name is = absurd (cc)
numbered (x ∷ names) n zero name is =
    let one : x ≡ name = cc in let same : n ≡ n + 0 = omega arith in
    ap (λ t. Some (named (part.More n) t)) one ∙ ap (λ m. Some (named (part.More m) name)) same
numbered (x ∷ names) n (suc i) name is =
    let same : suc n + i ≡ n + suc i = omega arith in
    numbered names (suc n) i name is ∙ ap (λ m. Some (named (part.More m) name)) same

-- The files of the samples alone are asked for.

pub first_reads : (first : List ℕ) (more : List (List ℕ)) (seen : List ℕ) → seen ≡ first → (a b : ShelfState) → OnlyReadsFile seen a b → OnlyReads (names_in (sample_files first more)) a b
first_reads first more seen is a b reads =
    only_reads_of_more a b (among_head first (names_in (numbered_files 2 more))) (subst (λ name. OnlyReadsFile name a b) is reads)

pub next_reads : (first : List ℕ) (more : List (List ℕ)) (i : ℕ) (name seen : List ℕ) → i < length more → name ≡ get_or more i name → seen ≡ name → (a b : ShelfState) → OnlyReadsFile seen a b
    → OnlyReads (names_in (sample_files first more)) a b
next_reads first more i name seen lt its is a b reads =
    only_reads_of_more a b
    (turn_among (sample_files first more) (suc i) (part.More (2 + i)) name (numbered more 2 i name (slice_get_read more (length more) i name refl lt its)))
    (subst (λ n. OnlyReadsFile n a b) is reads)

known_in : (m n : ℕ) (fault : Fault) → m ≤ n → MayRefuseSamples m fault → MayRefuseSamples n fault
known_in m n (FormFault part.Sample why) le k = k
known_in m n (FormFault (part.More x) why) le k = (k.0, omega (arith, k.1))
known_in m n (Unlike part.Sample) le k = k
known_in m n (Unlike (part.More x)) le k = (k.0, omega (arith, k.1))
known_in m n (Limit what number bound) le k = tt
known_in m n (FormFault part.Target why) le k = absurd k
known_in m n (FormFault part.Marks why) le k = absurd k
known_in m n (FormFault part.Out why) le k = absurd k
known_in m n (FormFault part.Map why) le k = absurd k
known_in m n (FormFault part.Record why) le k = absurd k
known_in m n (FormFault part.NewMap why) le k = absurd k
known_in m n (FormFault part.NewRecord why) le k = absurd k
known_in m n (FormFault part.Report why) le k = absurd k
known_in m n (Unlike part.Target) le k = absurd k
known_in m n (Unlike part.Marks) le k = absurd k
known_in m n (Unlike part.Out) le k = absurd k
known_in m n (Unlike part.Map) le k = absurd k
known_in m n (Unlike part.Record) le k = absurd k
known_in m n (Unlike part.NewMap) le k = absurd k
known_in m n (Unlike part.NewRecord) le k = absurd k
known_in m n (Unlike part.Report) le k = absurd k
known_in m n (Words fault) le k = absurd k
known_in m n (Mark index) le k = absurd k
known_in m n (Read its) le k = absurd k
known_in m n (Write its) le k = absurd k
known_in m n NoMemory le k = absurd k
known_in m n (NoLoop length) le k = absurd k

-- The first sample.

pub read_one : (asked : Asked) (first : List ℕ) (samples : Samples) (was now : ShelfState) → IsFirstRead asked first was now samples → AreReadSoFar asked first [] samples was now
read_one asked first samples was now one = told_weaker (λ before after. IsSampleIn asked.pictures (content_of before first) one.sample) (λ before after. StandForSeveral asked (content_of before first) [] samples) was.files now.files
    (λ before after read. stand_first asked (content_of before first) one.sample samples read one.started) one.read

module _ {names : List (List ℕ)} (asked : Asked) (first : List ℕ) (more : List (List ℕ)) (was now : ShelfState) (reads : OnlyReads names was now) where
  first_refused : (fault : Fault) → IsFirstRefused asked first was now fault → SeveralAreRefused asked first more fault was now
  first_refused fault r = record {
    known = known_in 1 (length more + 1) fault (omega arith) r.known;
    refused = told_weaker (λ before after. RefusesFirst asked (content_of before first) fault) (λ before after. (n : ℕ) × RefusesSeveral asked n (content_of before first) (contents before more) fault) was.files now.files
        (λ before after refused. (1, inl (refl, refused))) r.refused;
  }

  pub first_unread : (fault : Fault) → NotFirst asked first was now fault → SeveralReadAs asked first more was now (Err fault)
  first_unread (Read its) left = record {
    turn = 0;
    name = first;
    has_turn = ap (λ p. Some (named p first)) (sym left.0);
    rose = left.1;
    earlier = told_weaker (λ before after. after ≡ before) (λ before after. NoneRefusedOf asked 0 (content_of before first) (contents before more)) was.files now.files
        (λ before after same. none_at_first asked (content_of before first) (contents before more)) reads.files;
  }
  first_unread NoMemory left = tt
  first_unread (FormFault its why) left = first_refused (FormFault its why) left
  first_unread (Unlike its) left = first_refused (Unlike its) left
  first_unread (Limit what number bound) left = first_refused (Limit what number bound) left
  first_unread (Words fault) left = first_refused (Words fault) left
  first_unread (Mark index) left = first_refused (Mark index) left
  first_unread (Write its) left = first_refused (Write its) left
  first_unread (NoLoop length) left = first_refused (NoLoop length) left

-- A further sample.

module _ {those : List (List ℕ)} (asked : Asked) (first : List ℕ) (names : List (List ℕ)) (i : ℕ) (name : List ℕ) (before : Samples) (was mid now : ShelfState) (lt : i < length names) (is : name ≡ get_or names i name)
    (reads : OnlyReads those was mid) (so_far : AreReadSoFar asked first (take i names) before was mid) where
  get : slice_get names i ≡ Some name
  get = slice_get_read names (length names) i name refl lt is

  contents_get : (files : Files) → slice_get (contents files names) i ≡ Some (content_of files name)
  contents_get files = slice_get-map (content_of files) names i ∙ ap (λ o. Rattle.std.specs.Option.option_map (content_of files) o) get

  contents_front : (files : Files) (xs : List (List ℕ)) (n : ℕ) → contents files (take n xs) ≡ take n (contents files xs)
  contents_front files [] zero = refl
  contents_front files [] (suc n) = refl
  contents_front files (x ∷ xs) zero = refl
  contents_front files (x ∷ xs) (suc n) = ap (λ ys. content_of files x ∷ ys) (contents_front files xs n)

  abbrev SoFar : Files → Files → Type 0
  SoFar x y = StandForSeveral asked (content_of x first) (take i (contents x names)) before

  then_front : AreReadSoFar asked first (take i names) before was mid → Changes was mid (λ x y. (y ≡ x) × SoFar x y)
  then_front known = told_both (λ x y. y ≡ x) SoFar was.files mid.files reads.files
      (told_weaker (λ x y. StandForSeveral asked (content_of x first) (contents x (take i names)) before) SoFar was.files mid.files
      (λ x y a. subst (λ files. StandForSeveral asked (content_of x first) files before) (contents_front x names i) a) known)

  refused : (fault : Fault) → IsNextRefused asked before (i + 2) name mid now fault → SeveralAreRefused asked first names fault was now
  refused fault r = record {
    known = known_in (i + 2) (length names + 1) fault (omega arith) r.known;
    refused = told_then (λ x y. (y ≡ x) × SoFar x y) (λ x y. RefusesNext asked before (i + 2) (content_of x name) fault)
        (λ x y. (n : ℕ) × RefusesSeveral asked n (content_of x first) (contents x names) fault) was.files mid.files now.files
        (λ x y z same next. (
          i + 2,
          inr (record {
            turn = i;
            number_is = refl;
            bytes = content_of x name;
            its = contents_get x;
            before = before;
            stand = same.1;
            refused = subst (λ f. RefusesNext asked before (i + 2) (content_of f name) fault) same.0 next;
          }),
        )) (then_front so_far) r.refused;
  }

  pub next_unread : {later : List (List ℕ)} → OnlyReads later mid now → (fault : Fault) → NotNext asked before (i + 2) name mid now fault → SeveralReadAs asked first names was now (Err fault)
  next_unread then_reads (Read its) left = record {
    turn = i + 1;
    name = name;
    has_turn = (let same : 2 + i ≡ i + 2 = omega arith in rw (add-one i)
        (numbered names 2 i name get ∙ ap (λ m. Some (named (part.More m) name)) same ∙ ap (λ p. Some (named p name)) (sym left.0)));
    rose = rose_later (was.reads name) (mid.reads name) (now.reads name) (reads.reads name) left.1;
    earlier = told_then (λ x y. (y ≡ x) × SoFar x y) (λ x y. y ≡ x) (λ x y. NoneRefusedOf asked (i + 1) (content_of x first) (contents x names)) was.files mid.files now.files
        (λ x y z same then_same. none_refused asked (content_of x first) (contents x names) i before same.1) (then_front so_far) then_reads.files;
  }
  next_unread then_reads NoMemory left = tt
  next_unread then_reads (FormFault its why) left = refused (FormFault its why) left
  next_unread then_reads (Unlike its) left = refused (Unlike its) left
  next_unread then_reads (Limit what number bound) left = refused (Limit what number bound) left
  next_unread then_reads (Words fault) left = refused (Words fault) left
  next_unread then_reads (Mark index) left = refused (Mark index) left
  next_unread then_reads (Write its) left = refused (Write its) left
  next_unread then_reads (NoLoop length) left = refused (NoLoop length) left

-- how the reading of the sample of a number ends where the sample itself is read
pub next_answer : (asked : Asked) (before : Samples) (number : ℕ) (name : List ℕ) (was now : ShelfState) (after : Samples) (sample : Sample) (result : Result (Unit {0}) Fault)
    → 2 ≤ number → Changes was now (λ files left. IsSampleIn asked.pictures (content_of files name) sample) → Joins asked number before sample after result
    → NextReadsAs asked before number name was now after result
next_answer asked before number name was now after sample (Ok done) some read joins = record { sample = sample; read = read; joined = joins }
next_answer asked before number name was now after sample (Err fault) some read (inl e) = subst (NotNext asked before number name was now) (sym e) tt
next_answer asked before number name was now after sample (Err fault) some read (inr (inl unlike)) =
    subst (NotNext asked before number name was now) (sym unlike.1) (record {
      known = (some, omega arith);
      refused = told_weaker (λ files left. IsSampleIn asked.pictures (content_of files name) sample) (λ files left. RefusesNext asked before number (content_of files name) (Unlike (part.More number))) was.files now.files
          (λ files left read. inr (inl (record { sample = sample; read = read; unlike = unlike.0; is = refl }))) read;
    })
next_answer asked before number name was now after sample (Err fault) some read (inr (inr (goes, passes))) =
    let limit : Fault = Limit CellsLimit (with_turns asked.turns (count_of before.volume + count_of sample.volume)) MOST_SAMPLE_CELLS in
    subst (NotNext asked before number name was now) (sym passes.1) (record {
      known = tt;
      refused = told_weaker (λ files left. IsSampleIn asked.pictures (content_of files name) sample) (λ files left. RefusesNext asked before number (content_of files name) limit) was.files now.files
          (λ files left read. inr (inr (record { sample = sample; read = read; goes = goes; passes = (passes.0, refl) }))) read;
    })
