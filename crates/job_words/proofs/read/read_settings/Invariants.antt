use Rattle.std.proofs.Common.{◌≡◌, ◌≤◌, ◌+◌, [], length, drop}
use Rattle.job_words.specs.Words.{settings_of}
use Rattle.job_words.proofs.Counting.{set_count}
use Rattle.job_words.proofs.read.read_settings.Given as goal

-- what the words that are left give after the settings so far is what all words give; each setting is of a key of its own
abbrev pub invariant-loop-word : goal.invariant-loop-word
invariant-loop-word l = record {
  rest : settings_of l.rows (length l.settings.items + 2) l.settings.items (drop l.word-index l.words) ≡ settings_of l.rows 2 [] l.words;
  few : length l.settings.items ≤ set_count l.rows l.settings.items;
}
