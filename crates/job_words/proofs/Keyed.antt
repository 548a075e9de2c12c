-- The settings of keys: which one is found, and what one more setting changes.
use Rattle.std.proofs.Common.{◌≡◌, ◌≢◌, ℕ, List, [], ◌∷◌, ◌++◌, refl, sym, ap, ◌∙◌, Bool, true, false, cond, ◌&&◌, eqb-true}
use Rattle.std.specs.Prelude.{Option, Some, None, option_map, find, unwrap_or}
use Rattle.std.specs.Option.{option_or}
use Rattle.std.proofs.lemmas.Bool.{eq-eqb}
use Rattle.job_words.specs.declared.keys.Key.{Key}
use Rattle.job_words.specs.declared.keys.Key.TheVariants.{Sample, More, Target, Marks, Out, Map, Record, NewMap, NewRecord, Width, Height, Length, N, Frames, Place, Side, Block, Overlap, Tol, Alpha, Rounds, Seed, Taps, Gap, Wrap, Turns}
use Rattle.job_words.specs.declared.settings.Value.{Value}
use Rattle.job_words.specs.declared.settings.Setting.{Setting}
use Rattle.job_words.specs.Keys.{key_number, key_stem, same_key, same_number}
use Rattle.job_words.specs.Texts.{same_text}
use Rattle.job_words.specs.Words.{is_of, value_at}
use Rattle.job_words.proofs.Texting.{same_exact, same_itself}

all_keys : List Key
all_keys = Sample ∷ Target ∷ Marks ∷ Out ∷ Map ∷ Record ∷ NewMap ∷ NewRecord ∷ Width ∷ Height ∷ Length ∷ N ∷ Frames ∷ Place ∷ Side ∷ Block ∷ Overlap ∷ Tol ∷ Alpha ∷ Rounds ∷ Seed ∷ Taps ∷ Gap ∷ Wrap ∷ Turns ∷ []

-- the key of a stem and a number
key_with : List ℕ → Option ℕ → Key
key_with stem (Some n) = More n
key_with stem None = unwrap_or (find (λ (key : Key). same_text (key_stem key) stem) all_keys) Sample

key_again : (key : Key) → key_with (key_stem key) (key_number key) ≡ key
unfolding key_with all_keys
key_again (More n) = refl
key_again Sample = refl
key_again Target = refl
key_again Marks = refl
key_again Out = refl
key_again Map = refl
key_again Record = refl
key_again NewMap = refl
key_again NewRecord = refl
key_again Width = refl
key_again Height = refl
key_again Length = refl
key_again N = refl
key_again Frames = refl
key_again Place = refl
key_again Side = refl
key_again Block = refl
key_again Overlap = refl
key_again Tol = refl
key_again Alpha = refl
key_again Rounds = refl
key_again Seed = refl
key_again Taps = refl
key_again Gap = refl
key_again Wrap = refl
key_again Turns = refl

of_number : (key : Key) (n : ℕ) → key_number key ≡ Some n → key ≡ More n
unfolding key_with
of_number key n is = sym (key_again key) ∙ ap (key_with (key_stem key)) is

-- only the key of a further sample ends in a number
pub unnumbered : (key : Key) → ((n : ℕ) → key ≢ More n) → None ≡ key_number key
unnumbered key other = by (key_number key) refl
  where
    by : (o : Option ℕ) → key_number key ≡ o → None ≡ key_number key
    by None is = sym is
    by (Some n) is = absurd (other n (of_number key n is))

number_exact : (m n : Option ℕ) → same_number m n ≡ true → m ≡ n
number_exact None None e = refl
number_exact (Some m) (Some n) e = ap Some (eqb-true m n e)
number_exact None (Some n) e = absurd (cc)
number_exact (Some m) None e = absurd (cc)

number_itself : (n : Option ℕ) → same_number n n ≡ true
number_itself None = refl
number_itself (Some n) = eq-eqb n n refl

both : (a b : Bool) → (a && b) ≡ true → (a ≡ true) × (b ≡ true)
both true b e = (refl, e)
both false b e = absurd (cc)

-- no two keys have the same stem and number
pub key_exact : (j k : Key) → same_key j k ≡ true → j ≡ k
key_exact j k e =
    let parts = both (same_text (key_stem j) (key_stem k)) (same_number (key_number j) (key_number k)) e in
    sym (key_again j) ∙ ap (λ stem. key_with stem (key_number j)) (same_exact (key_stem j) (key_stem k) parts.0)
    ∙ ap (key_with (key_stem k)) (number_exact (key_number j) (key_number k) parts.1) ∙ key_again k

pub key_itself : (k : Key) → same_key k k ≡ true
key_itself k = ap (λ b. b && same_number (key_number k) (key_number k)) (same_itself (key_stem k)) ∙ number_itself (key_number k)

one_more : (b : Bool) (e : Setting) (x x' : Option Setting) (y : Option Value) → option_map (λ (s : Setting). s.value) x' ≡ option_or (option_map (λ (s : Setting). s.value) x) y
    → option_map (λ (s : Setting). s.value) (cond b (Some e) x') ≡ option_or (option_map (λ (s : Setting). s.value) (cond b (Some e) x)) y
one_more true e x x' y h = refl
one_more false e x x' y h = h

-- the first setting of a key holds
pub value_at-append : (key : Key) (s t : List Setting) → value_at key (s ++ t) ≡ option_or (value_at key s) (value_at key t)
value_at-append key [] t = refl
value_at-append key (e ∷ s) t = one_more (is_of key e) e (find (is_of key) s) (find (is_of key) (s ++ t)) (value_at key t) (value_at-append key s t)
