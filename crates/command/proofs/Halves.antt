-- A command in two halves: what it reads and computes, and the writing of what it made.
use Rattle.std.proofs.Common.{◌≡◌, ℕ, ◌⊎◌, inl, inr, List, ap, sym, ◌∙◌, subst}
use Rattle.std.specs.Prelude.{Result, Ok, Err}
use Rattle.shelf_traits.specs.Files.{Files, ShelfState, SinkState, OnlyReads, OnlyWrites, Changes, Rose}
use Rattle.shelf_traits.specs.Written.{Untouched, StoppedAt, written}
use Rattle.shelf_traits.proofs.FileLaws.{AreAmong, among_left, among_right, asks_of_more, asks_then, only_writes_same, told_same, told_then}
use Rattle.synth_report.specs.declared.fault.FileOf.{FileOf}
use Rattle.synth_report.specs.declared.fault.Fault.{Fault}
use Rattle.synth_report.specs.declared.fault.Fault.TheVariants.{Words, Form, Unlike, Mark, Limit, Read, Write, NoMemory, NoLoop}
use Rattle.synth_report.specs.declared.summary.Summary.{Summary}
use Rattle.command.specs.Commands.{Command, HasTurn, names_in, names_of}
use Rattle.command.specs.Writing.{FileText, HoldAll, IsSilent, StopsReporting, StopsWriting, WritesRun, pieces, pieces_of, text_names, texts_in}
use Rattle.command.specs.Outcomes.{Ends, IsPlanned, IsStopped, Leaves, NotMade, WritesAll, WritesUpTo}

-- The first half fails.

module _ (c : Command) (a b : ShelfState) where
  -- a fault for which nothing is made is the answer of the command
  pub not_planned : OnlyReads (names_in c.reads) a b → (out : SinkState) (fault : Fault) → NotMade c a b fault → Leaves c a b out out (Err fault)
  not_planned reads out fault left = record {
    ends = by fault left (record { files = reads.files; added = told_same out.bytes });
    asked = asks_of_more (names_in c.reads) (names_of c) a b (among_left (names_in c.reads) (names_in c.writes)) reads.asked;
    halves = record { between = b; reads = reads; writes = only_writes_same b };
  }
    where
      by : (fault : Fault) → NotMade c a b fault → Untouched a b out out → Ends c a b out out (Err fault)
      by (Read part) left same = (same, left)
      by NoMemory left same = (same, left)
      by (Form part why) left same = (same, left)
      by (Unlike part) left same = (same, left)
      by (Mark index) left same = (same, left)
      by (Limit what number bound) left same = (same, left)
      by (NoLoop length) left same = (same, left)
      by (Words fault) left same = absurd left
      by (Write part) left same = absurd left

-- What it made is written.

module _ (c : Command) (files : List FileText) (summary : Summary) (a b d : ShelfState) (out out' : SinkState)
    (reads : OnlyReads (names_in c.reads) a b) (made : IsPlanned c files summary a b) (writes : OnlyWrites (text_names files) b d) where
  abbrev Made : Files → Files → Type 0
  Made before after = (after ≡ before) × c.Makes before (texts_in files) summary

  same_pieces : pieces_of files ≡ pieces c.writes (texts_in files)
  same_pieces = ap (λ names. pieces names (texts_in files)) made.named

  wrote_all : HoldAll files b d → Changes a d (WritesAll c summary)
  wrote_all whole = told_then Made (λ before after. after ≡ written (pieces_of files) before) (WritesAll c summary) a.files b.files d.files
      (λ x y z p q. (texts_in files, p.1, q ∙ ap (written (pieces_of files)) p.0 ∙ ap (λ ps. written ps x) same_pieces)) made.made whole

  wrote_up_to : (turn : ℕ) → Changes b d (StoppedAt (pieces_of files) turn) → Changes a d (WritesUpTo c turn)
  wrote_up_to turn stopped = told_then Made (StoppedAt (pieces_of files) turn) (WritesUpTo c turn) a.files b.files d.files
      (λ x y z p q. (texts_in files, summary, p.1, subst (λ ps. StoppedAt ps turn x z) same_pieces (subst (λ before. StoppedAt (pieces_of files) turn before z) p.0 q))) made.made stopped

  stopped : (part : FileOf) → StopsWriting files part b d → IsSilent out out' → IsStopped c part a d out out'
  stopped part s silent = record {
    turn = s.turn;
    name = s.name;
    its = subst (λ names. HasTurn names s.turn part s.name) made.named s.its;
    files = wrote_up_to s.turn s.stopped;
    rose = subst (λ counts. Rose (counts s.name) (d.writes s.name)) reads.writes s.rose;
    silent = silent;
  }

  unwritten : (part : FileOf) → StopsReporting files summary part b d out out' ⊎ (StopsWriting files part b d × IsSilent out out') → Ends c a d out out' (Err (Write part))
  unwritten part (inl left) = inl (record { is = left.is; summary = summary; known = made.known; files = wrote_all left.whole; told = left.told; rose = left.rose })
  unwritten part (inr left) = inr (stopped part left.0 left.1)

  ended : (answer : Result Summary Fault) → WritesRun files summary b d out out' answer → Ends c a d out out' answer
  ended (Ok done) left = subst (λ s. Ends c a d out out' (Ok s)) (sym left.0) (record { known = made.known; files = wrote_all left.1; told = left.2 })
  ended (Err (Write part)) left = unwritten part left
  ended (Err (Read part)) left = absurd left
  ended (Err NoMemory) left = absurd left
  ended (Err (Form part why)) left = absurd left
  ended (Err (Unlike part)) left = absurd left
  ended (Err (Mark index)) left = absurd left
  ended (Err (Limit what number bound)) left = absurd left
  ended (Err (NoLoop length)) left = absurd left
  ended (Err (Words fault)) left = absurd left

  own_names : AreAmong (text_names files) (names_of c)
  own_names = subst (λ named. AreAmong (names_in named) (names_of c)) (sym made.named) (among_right (names_in c.reads) (names_in c.writes))

  -- so it is what the command leaves
  pub planned : (answer : Result Summary Fault) → WritesRun files summary b d out out' answer → Leaves c a d out out' answer
  planned answer wrote = record {
    ends = ended answer wrote;
    asked = asks_then (names_of c) a b d (asks_of_more (names_in c.reads) (names_of c) a b (among_left (names_in c.reads) (names_in c.writes)) reads.asked) (asks_of_more (text_names files) (names_of c) b d own_names writes.asked);
    halves = record { between = b; reads = reads; writes = subst (λ named. OnlyWrites (names_in named) b d) made.named writes };
  }
