-- The names of the files of a run, of which some are among others.
use Rattle.std.proofs.Common.{◌≡◌, ℕ, zero, suc, ◌+◌, List, [], ◌∷◌, ◌++◌, refl, sym, ap, ◌∙◌, subst, Bool, true, false, nat_eq}
use Rattle.std.proofs.Math.Bool.{◌||◌}
use Rattle.std.proofs.lemmas.Cmp.{nat_list_eq_equiv}
use Rattle.std.specs.Prelude.{Some}
use Rattle.std.specs.Cmp.Lexicographic.{pointwise, same_text}
use Rattle.shelf_traits.specs.Files.{is_one_of}
use Rattle.shelf_traits.proofs.FileLaws.{AreAmong, among_head, among_left, among_rest, among_right, among_then}
use Rattle.synth_report.specs.declared.fault.FileOf.{FileOf}
use Rattle.command.specs.Commands.{HasTurn, NamedFile, named, names_in}
use Rattle.command.specs.Writing.{FileText, text_names}

-- the file of a turn has one of the names
pub turn_among : (files : List NamedFile) (turn : ℕ) (part : FileOf) (name : List ℕ) → HasTurn files turn part name → AreAmong (name ∷ []) (names_in files)
turn_among [] turn part name its = absurd (cc)
turn_among (file ∷ files) zero part name its =
    let is : file ≡ named part name = cc in
    subst (λ (f : NamedFile). AreAmong (name ∷ []) (names_in (f ∷ files))) (sym is) (among_head name (names_in files))
turn_among (file ∷ files) (suc turn) part name its =
    among_then (name ∷ []) (names_in files) (names_in (file ∷ files)) (turn_among files turn part name its) (among_rest file.name (names_in files))

-- and one of the names is that of a file of a turn
abbrev HasATurn : List NamedFile → List ℕ → Type 0
HasATurn files name = (turn : ℕ) × (part : FileOf) × HasTurn files turn part name

turn_of : (files : List NamedFile) (name : List ℕ) → is_one_of (names_in files) name ≡ true → HasATurn files name
turn_of [] name is = absurd (cc)
turn_of (file ∷ files) name is = by (pointwise nat_eq name file.name) refl (λ later. turn_of files name later)
  where
    by : (b : Bool) → b ≡ pointwise nat_eq name file.name → (is_one_of (names_in files) name ≡ true → HasATurn files name) → HasATurn (file ∷ files) name
    by true here later = (0, file.part, ap (λ n. Some (named file.part n)) (sym (same_text name file.name here)))
    by false here later =
        let its = later (ap (λ (b : Bool). b || is_one_of (names_in files) name) here ∙ is) in
        (suc its.0, its.1, its.2)

-- files that have turns among more, from one of those on, have their names among them
pub turns_among_from : (files more : List NamedFile) (from : ℕ) → ((turn : ℕ) (part : FileOf) (name : List ℕ) → HasTurn files turn part name → HasTurn more (from + turn) part name)
    → AreAmong (names_in files) (names_in more)
turns_among_from files more from turns call is =
    let its : HasATurn files call = turn_of files call is in
    turn_among more (from + its.0) its.1 call (turns its.0 its.1 call its.2) call (ap (λ (b : Bool). b || false) (nat_list_eq_equiv.refl call))

-- the names of texts of two groups
text_names-append : (first second : List FileText) → text_names (first ++ second) ≡ text_names first ++ text_names second
text_names-append [] second = refl
text_names-append (f ∷ first) second = ap (λ names. f.file.name ∷ names) (text_names-append first second)

pub first_texts : (first second : List FileText) → AreAmong (text_names first) (text_names (first ++ second))
first_texts first second = subst (AreAmong (text_names first)) (sym (text_names-append first second)) (among_left (text_names first) (text_names second))

pub second_texts : (first second : List FileText) → AreAmong (text_names second) (text_names (first ++ second))
second_texts first second = subst (AreAmong (text_names second)) (sym (text_names-append first second)) (among_right (text_names first) (text_names second))
