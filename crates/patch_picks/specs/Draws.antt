-- To be trusted: draws, the words of a stream of ChaCha8 (Bernstein 2008), by their place. (That a
-- seed is the first bytes of the key, most significant first, is own.)
use Rattle.std.specs.Prelude.{◌≡◌, ◌<◌, ◌%◌, ◌^◌, ℕ, List, ◌++◌, replicate}
use Rattle.std.specs.Int.{w64, to_be_bytes}
use Rattle.rand_chacha.specs.ChaCha.{ChaCha, word_at, key_of}

-- the seed, and the number of the next draw
pub record DrawState : Type 0 where
  pub seed : ℕ
  pub place : ℕ

-- the key: the seed as 8 bytes, most significant first, and then 24 zero bytes
abbrev pub seed_bytes : ℕ → List ℕ
seed_bytes seed = to_be_bytes w64 seed ++ replicate 24 0

-- the word of ChaCha8, which has 4 double rounds, at a place of stream 0
abbrev pub draw_word : ℕ → ℕ → ℕ
draw_word seed j = word_at 4 (key_of (seed_bytes seed)) 0 j

-- draw number j of a seed among n entries
abbrev pub draw : ℕ → ℕ → ℕ → ℕ
draw seed j n = draw_word seed j % n

-- a generator at a place of the seed's stream
pub record IsStreamAt (seed : ℕ) (stream : ChaCha) : Type 0 where
  pub key : stream.key ≡ key_of (seed_bytes seed)
  pub number : stream.stream ≡ 0
  pub small : stream.word_pos < 2 ^ 64
