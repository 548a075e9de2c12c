-- Files that are written one after another, in two groups, and the report after them.
use Rattle.std.proofs.Common.{◌≡◌, ℕ, zero, suc, ◌⊎◌, inl, inr, List, [], ◌∷◌, ◌++◌, length, take, drop, refl, sym, ap, ◌∙◌, subst}
use Rattle.std.specs.Prelude.{Option, Some, None, slice_get, Result, Ok, Err}
use Rattle.std.proofs.Math.Seq.{take-length}
use Rattle.shelf_traits.specs.Files.{Files, ShelfState, SinkState, OnlyWrites, Changes, Told, Rose, IsPrefixAdded}
use Rattle.shelf_traits.specs.Written.{HoldsPart, written, StoppedAt, Says}
use Rattle.shelf_traits.proofs.FileLaws.{told_same, told_then, told_weaker, rose_then, rose_later}
use Rattle.synth_report.specs.declared.fault.FileOf.{FileOf}
use Rattle.synth_report.specs.declared.fault.Fault.{Fault}
use Rattle.synth_report.specs.declared.fault.Fault.TheVariants.{Words, Form, Unlike, Mark, Limit, Read, Write, NoMemory, NoLoop}
use Rattle.synth_report.specs.declared.summary.Summary.{Summary}
use Rattle.synth_report.specs.Texts.{report_of}
use Rattle.command.specs.Commands.{NamedFile, HasTurn}
use Rattle.command.specs.Writing.{FileText, HoldAll, IsSilent, ReportedInPart, StopsWriting, WritesFiles, WritesRun, file_text, files_in, pieces_of}

-- All files of two groups.

written_both : (first second : List FileText) (files : Files) → written (pieces_of (first ++ second)) files ≡ written (pieces_of second) (written (pieces_of first) files)
written_both [] second files = refl
written_both (f ∷ first) second files = written_both first second _

module _ (first second : List FileText) (a b c : ShelfState) where
  pub hold_both : HoldAll first a b → HoldAll second b c → HoldAll (first ++ second) a c
  hold_both p q = told_then
      (λ before after. after ≡ written (pieces_of first) before) (λ before after. after ≡ written (pieces_of second) before) (λ before after. after ≡ written (pieces_of (first ++ second)) before) a.files b.files c.files
      (λ x y z one two. two ∙ ap (written (pieces_of second)) one ∙ sym (written_both first second x)) p q

-- The writing stops in the first group.

its_first : (first second : List FileText) (turn : ℕ) (file : NamedFile) → slice_get (files_in first) turn ≡ Some file → slice_get (files_in (first ++ second)) turn ≡ Some file
its_first [] second turn file e = absurd (cc)
its_first (f ∷ first) second zero file e = e
its_first (f ∷ first) second (suc turn) file e = its_first first second turn file e

stopped_first : (first second : List FileText) (turn : ℕ) (file : NamedFile) (before after : Files) → slice_get (files_in first) turn ≡ Some file → StoppedAt (pieces_of first) turn before after → StoppedAt (pieces_of (first ++ second)) turn before after
stopped_first [] second turn file before after e stopped = absurd (cc)
stopped_first (f ∷ first) second zero file before after e stopped = stopped
stopped_first (f ∷ first) second (suc turn) file before after e stopped = stopped_first first second turn file _ after e stopped

-- It stops in the second group.

turn_after : List FileText → ℕ → ℕ
turn_after [] turn = turn
turn_after (f ∷ first) turn = suc (turn_after first turn)

its_second : (first second : List FileText) (turn : ℕ) (file : NamedFile) → slice_get (files_in second) turn ≡ Some file → slice_get (files_in (first ++ second)) (turn_after first turn) ≡ Some file
unfolding turn_after
its_second [] second turn file e = e
its_second (f ∷ first) second turn file e = its_second first second turn file e

stopped_second : (first second : List FileText) (turn : ℕ) (before after : Files) → StoppedAt (pieces_of second) turn (written (pieces_of first) before) after → StoppedAt (pieces_of (first ++ second)) (turn_after first turn) before after
unfolding turn_after
stopped_second [] second turn before after stopped = stopped
stopped_second (f ∷ first) second turn before after stopped = stopped_second first second turn _ after stopped

module _ (first second : List FileText) (part : FileOf) (a b c : ShelfState) where
  pub stops_first : StopsWriting first part a b → StopsWriting (first ++ second) part a b
  stops_first s = record {
    turn = s.turn;
    name = s.name;
    its = its_first first second s.turn _ s.its;
    stopped = told_weaker (StoppedAt (pieces_of first) s.turn) (StoppedAt (pieces_of (first ++ second)) s.turn) a.files b.files
        (λ x y p. stopped_first first second s.turn _ x y s.its p) s.stopped;
    rose = s.rose;
  }

  pub stops_second : {names : List (List ℕ)} → OnlyWrites names a b → HoldAll first a b → StopsWriting second part b c → StopsWriting (first ++ second) part a c
  stops_second writes whole s = record {
    turn = turn_after first s.turn;
    name = s.name;
    its = its_second first second s.turn _ s.its;
    stopped = told_then
        (λ before after. after ≡ written (pieces_of first) before) (StoppedAt (pieces_of second) s.turn) (StoppedAt (pieces_of (first ++ second)) (turn_after first s.turn)) a.files b.files c.files
        (λ x y z one two. stopped_second first second s.turn x z (subst (λ files. StoppedAt (pieces_of second) s.turn files z) one two)) whole s.stopped;
    rose = rose_later (a.writes s.name) (b.writes s.name) (c.writes s.name) (writes.writes s.name) s.rose;
  }

-- how the writing of both groups ends, by the end of the second
pub both_written : {names : List (List ℕ)} (first second : List FileText) (a b c : ShelfState) (result : Result (Unit {0}) FileOf) → OnlyWrites names a b → HoldAll first a b → WritesFiles second b c result → WritesFiles (first ++ second) a c result
both_written first second a b c (Ok done) writes whole wrote = hold_both first second a b c whole wrote
both_written first second a b c (Err part) writes whole wrote = stops_second first second part a b c writes whole wrote

-- a report that was said is written whole or in part
pub in_part : (summary : Summary) (out out' : SinkState) → Says out out' (report_of summary) → ReportedInPart summary out out'
in_part summary out out' (inl whole) =
    told_weaker (λ before after. after ≡ before ++ report_of summary) (λ before after. IsPrefixAdded before (report_of summary) after) out.bytes out'.bytes
    (λ before after is. (length (report_of summary), is ∙ ap (λ bytes. before ++ bytes) (sym (take-length (report_of summary))))) whole
in_part summary out out' (inr part) = part.1

-- a lone file can't be written whole, by what its writer promises of the name that it sees
pub stops_at_one : (part : FileOf) (name seen text : List ℕ) (a b : ShelfState) → seen ≡ name → Changes a b (HoldsPart seen text) → Rose (a.writes seen) (b.writes seen) → StopsWriting (file_text part name text ∷ []) part a b
stops_at_one part name seen text a b is left rose = record {
  turn = 0;
  name = name;
  its = refl;
  stopped = subst (λ n. Changes a b (HoldsPart n text)) is left;
  rose = subst (λ n. Rose (a.writes n) (b.writes n)) is rose;
}

-- the report of a run whose files are whole
pub reported : (files : List FileText) (summary : Summary) (a b : ShelfState) (out out' : SinkState) (answer : Result Summary Fault) → HoldAll files a b → WritesRun [] summary b b out out' answer → WritesRun files summary a b out out' answer
reported files summary a b out out' (Ok done) whole wrote = (wrote.0, whole, wrote.2)
reported files summary a b out out' (Err (Write part)) whole (inl told) = inl (record { is = told.is; whole = whole; told = told.told; rose = told.rose })
reported files summary a b out out' (Err (Write part)) whole (inr stops) = let its = stops.0.its in absurd (cc)
reported files summary a b out out' (Err (Words fault)) whole wrote = absurd wrote
reported files summary a b out out' (Err (Form part why)) whole wrote = absurd wrote
reported files summary a b out out' (Err (Unlike part)) whole wrote = absurd wrote
reported files summary a b out out' (Err (Mark index)) whole wrote = absurd wrote
reported files summary a b out out' (Err (Limit what number bound)) whole wrote = absurd wrote
reported files summary a b out out' (Err (Read part)) whole wrote = absurd wrote
reported files summary a b out out' (Err NoMemory) whole wrote = absurd wrote
reported files summary a b out out' (Err (NoLoop length)) whole wrote = absurd wrote

-- no file is written
pub none_held : (shelf : ShelfState) → HoldAll [] shelf shelf
none_held shelf = told_same shelf.files
