-- The lines of a report as the code has them. Only the proofs of this crate use them. (Own.)
use Rattle.std.specs.Prelude.{ℕ, List}
use Rattle.synth_report.specs.declared.reports.Line.{Line}
use Rattle.synth_report.specs.declared.reports.Line.TheVariants.{Text, Count, Area}
use Rattle.synth_report.specs.Texts.{count_line, size_line}

abbrev pub line_text : Line → List ℕ
line_text (Text text) = text.now
line_text (Count name n) = count_line name.now n
line_text (Area name size) = size_line name.now size
