-- The keys as words spell them. To be trusted: contracts cite these words. (Own.)
use Rattle.std.specs.Prelude.{ℕ, ◌&&◌, Bool, true, false, nat_eq, List, [], ◌++◌, Option, Some, None, codes, decimal}
use Rattle.job_words.specs.declared.keys.Key.{Key}
use Rattle.job_words.specs.declared.keys.Key.TheVariants.{Sample, More, Target, Marks, Out, Map, Record, NewMap, NewRecord, Width, Height, Length, N, Frames, Place, Side, Block, Overlap, Tol, Alpha, Rounds, Seed, Taps, Gap, Wrap, Turns}
use Rattle.job_words.specs.Texts.{same_text}

-- a key as a word spells it, up to the number of a further sample
abbrev pub key_stem : Key → List ℕ
key_stem Sample = codes "sample"
key_stem (More n) = codes "sample"
key_stem Target = codes "target"
key_stem Marks = codes "marks"
key_stem Out = codes "out"
key_stem Map = codes "map"
key_stem Record = codes "record"
key_stem NewMap = codes "newmap"
key_stem NewRecord = codes "newrecord"
key_stem Width = codes "width"
key_stem Height = codes "height"
key_stem Length = codes "length"
key_stem N = codes "n"
key_stem Frames = codes "frames"
key_stem Place = codes "place"
key_stem Side = codes "box"
key_stem Block = codes "block"
key_stem Overlap = codes "overlap"
key_stem Tol = codes "tol"
key_stem Alpha = codes "alpha"
key_stem Rounds = codes "rounds"
key_stem Seed = codes "seed"
key_stem Taps = codes "taps"
key_stem Gap = codes "gap"
key_stem Wrap = codes "wrap"
key_stem Turns = codes "turns"

-- the number of a further sample
abbrev pub key_number : Key → Option ℕ
key_number (More n) = Some n
key_number key = None

abbrev pub number_text : Option ℕ → List ℕ
number_text None = []
number_text (Some n) = decimal n

-- a key as a word spells it
abbrev pub key_text : Key → List ℕ
key_text key = key_stem key ++ number_text (key_number key)

abbrev pub same_number : Option ℕ → Option ℕ → Bool
same_number None None = true
same_number (Some m) (Some n) = nat_eq m n
same_number m n = false

-- keys are the same where both of these are
abbrev pub same_key : Key → Key → Bool
same_key a b = same_text (key_stem a) (key_stem b) && same_number (key_number a) (key_number b)
