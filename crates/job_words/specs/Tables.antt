-- What the table of a command's keys says: the texts of which a value is one, and which values
-- are of a kind. To be trusted: contracts cite these words. (Own.)
use Rattle.std.specs.Prelude.{◌≡◌, ◌≢◌, ◌≤◌, ◌<◌, ◌⊎◌, ℕ, List, [], ◌∷◌, length, codes}
use Rattle.limits.specs.declared.bounds.TheConstants.{GREATEST_AXIS, GREATEST_OVERLAP, GREATEST_SEED, GREATEST_TOLERANCE, MOST_ROUNDS}
use Rattle.job_words.specs.declared.table.Texts.{Texts}
use Rattle.job_words.specs.declared.table.Texts.TheVariants.{Places, Wraps, Turns}
use Rattle.job_words.specs.declared.table.Kind.{Kind}
use Rattle.job_words.specs.declared.table.Kind.TheVariants.{FileName, Within, Among, OneOf}
use Rattle.job_words.specs.declared.table.Choice.TheVariants.{Number, Nth}
use Rattle.job_words.specs.declared.table.Need.{Need}
use Rattle.job_words.specs.declared.table.Need.TheVariants.{Always, Default, BelowAnother}
use Rattle.job_words.specs.declared.table.Row.{Row}
use Rattle.job_words.specs.declared.keys.Key.{Key}
use Rattle.job_words.specs.declared.keys.Key.TheVariants as keys
use Rattle.job_words.specs.declared.settings.Value.{Value}
use Rattle.job_words.specs.declared.settings.Value.TheVariants.{Named, Chosen}

-- the texts of a list, in their order
abbrev pub texts_of : Texts → List (List ℕ)
texts_of Places = codes "grid" ∷ codes "random" ∷ codes "whole" ∷ codes "sub" ∷ []
texts_of Wraps = codes "x" ∷ codes "y" ∷ codes "xy" ∷ codes "f" ∷ codes "xyf" ∷ []
texts_of Turns = codes "none" ∷ codes "all" ∷ []

-- a value of its kind: a name that isn't empty, a number in its range, or a text of its list
abbrev pub IsOfKind : Kind → Value → Type 0
IsOfKind FileName (Named name) = name ≢ []
IsOfKind (Within least most) (Chosen (Number n)) = (least ≤ n) × (n ≤ most)
IsOfKind (Among a b c) (Chosen (Number n)) = (n ≡ a) ⊎ (n ≡ b) ⊎ (n ≡ c)
IsOfKind (OneOf texts) (Chosen (Nth n)) = n < length (texts_of texts)
IsOfKind kind value = ⊥

abbrev pub row : Key → Kind → Need → Row
row key kind need = record { key = key; kind = kind; need = need }

-- the name of a file, which a word has to give
abbrev pub file_row : Key → Row
file_row key = row key FileName Always

-- the name of a further sample's file
abbrev pub sample_row : ℕ → Row
sample_row n = row (keys.More n) FileName BelowAnother

-- a number from a least to a greatest, which a word has to give, or which has a default
abbrev pub number_row : Key → ℕ → ℕ → Row
number_row key least most = row key (Within least most) Always

abbrev pub default_row : Key → ℕ → ℕ → ℕ → Row
default_row key least most n = row key (Within least most) (Default (Number n))

-- The rows of keys that several commands have: each key has one range, and mostly one default.

-- how the places of patches are chosen: without a word by fitting patches
abbrev pub place_row : Row
place_row = row keys.Place (OneOf Places) (Default (Nth 3))

-- whether samples are turned: without a word they aren't
abbrev pub turns_row : Row
turns_row = row keys.Turns (OneOf Turns) (Default (Nth 0))

abbrev pub side_row : Row
side_row = default_row keys.Side 1 GREATEST_AXIS 32

abbrev pub block_row : Row
block_row = default_row keys.Block 1 GREATEST_AXIS 32

abbrev pub overlap_row : ℕ → Row
overlap_row n = default_row keys.Overlap 0 GREATEST_OVERLAP n

abbrev pub tol_row : Row
tol_row = default_row keys.Tol 0 GREATEST_TOLERANCE 10

abbrev pub rounds_row : ℕ → Row
rounds_row n = default_row keys.Rounds 0 MOST_ROUNDS n

abbrev pub seed_row : Row
seed_row = default_row keys.Seed 0 GREATEST_SEED 0
