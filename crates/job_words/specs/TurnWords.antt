-- Whether samples are turned, by the key that commands have for it. To be trusted: contracts cite
-- these words. (Own.)
use Rattle.std.specs.Prelude.{ℕ, Bool, List, nat_eq}
use Rattle.job_words.specs.declared.keys.Key.TheVariants as key
use Rattle.job_words.specs.declared.table.Kind.TheVariants.{OneOf}
use Rattle.job_words.specs.declared.table.Texts.TheVariants.{Turns}
use Rattle.job_words.specs.declared.settings.Setting.{Setting}
use Rattle.job_words.specs.Words.{IsGiven, nth_at}

-- the value at a position of the list of their texts: `none` comes first, and then `all`
abbrev pub turns_nth : ℕ → Bool
turns_nth n = nat_eq n 1

abbrev pub turns_of : List Setting → Bool
turns_of settings = turns_nth (nth_at key.Turns settings)

-- the value by which it is made is of its key's kind
abbrev pub HasTurns : List Setting → Type 0
HasTurns settings = IsGiven (OneOf Turns) key.Turns settings
