-- The values of all keys of a table: each is of its kind, and no two keys have the same file name.
use Rattle.std.proofs.Common.{◌≡◌, ◌≢◌, ℕ, ◌≤◌, ◌<◌, List, [], ◌∷◌, ◌++◌, length, refl, sym, ap, ◌∙◌, subst, arith, Bool, true, false, cond, not, ◌&&◌, ◌||◌, eqb-true}
use Rattle.std.specs.Prelude.{Option, Some, None, All, AllPairs, find, filter_map, is_none, map, option_map, nat_eq, nat_lt, Result, Ok, Err}
use Rattle.std.specs.List.{list_any, cons_option}
use Rattle.std.specs.Option.{option_or, IsSomeAnd}
use Rattle.std.proofs.lemmas.Bool.Decides.{nat_tests}
use Rattle.std.proofs.lemmas.List.Elements.{All-cons, All-nil, filter_map-append}
use Rattle.std.proofs.lemmas.List.Kept.{AllPairs-cons}
use Rattle.job_words.specs.declared.job.WordFault.{WordFault}
use Rattle.job_words.specs.declared.keys.Key.{Key}
use Rattle.job_words.specs.declared.keys.Key.TheVariants as key
use Rattle.job_words.specs.declared.table.Texts.{Texts}
use Rattle.job_words.specs.declared.table.Texts.TheVariants.{Places, Wraps, Turns}
use Rattle.job_words.specs.declared.table.Kind.{Kind}
use Rattle.job_words.specs.declared.table.Kind.TheVariants.{FileName, Within, Among, OneOf}
use Rattle.job_words.specs.declared.table.Choice.{Choice}
use Rattle.job_words.specs.declared.table.Choice.TheVariants.{Number, Nth}
use Rattle.job_words.specs.declared.table.Need.{Need}
use Rattle.job_words.specs.declared.table.Need.TheVariants.{Always, Default, BelowAnother}
use Rattle.job_words.specs.declared.table.Row.{Row}
use Rattle.job_words.specs.declared.settings.Value.{Value}
use Rattle.job_words.specs.declared.settings.Value.TheVariants.{Named, Chosen}
use Rattle.job_words.specs.declared.settings.Setting.{Setting}
use Rattle.job_words.specs.Keys.{same_key}
use Rattle.job_words.specs.Tables.{IsOfKind, texts_of}
use Rattle.job_words.specs.Words.{lies_within, is_among, IsNamed, IsNumeric, IsPosition, and_then, value_at, settings_of, default_of, with_defaults, is_missing, is_needed, first_missing, unless_missing, complete, all_settings, text_in, text_of, nth_in, number_in, IsGivenAs, HasAllValues}
use Rattle.job_words.specs.Names.{AreNames, HasNames, more_keys, more_names, name_if_set, name_in, name_list, names_of, with_files, with_one_sample}
use Rattle.job_words.proofs.Accepting.{both, one_of}
use Rattle.job_words.proofs.Keyed.{value_at-append, key_exact, key_itself}
use Rattle.job_words.proofs.Reading.{kind_of, HasKind, AreSettings, settings_of_words}

-- A table is sound where each row is the one that its key finds, and each default is of its kind.

abbrev pub DefaultFits : Need → Kind → Type 0
DefaultFits (Default choice) kind = IsOfKind kind (Chosen choice)
DefaultFits need kind = Unit {0}

abbrev pub AreSound : List Row → List Row → Type 0
AreSound all [] = Unit {0}
AreSound all (row ∷ rows) = (kind_of all row.key ≡ Some row.kind) × DefaultFits row.need row.kind × AreSound all rows

-- The same as a test, which computes.

abbrev pub same_texts : Texts → Texts → Bool
same_texts Places Places = true
same_texts Wraps Wraps = true
same_texts Turns Turns = true
same_texts a b = false

abbrev pub same_kind : Kind → Kind → Bool
same_kind FileName FileName = true
same_kind (Within a b) (Within c d) = nat_eq a c && nat_eq b d
same_kind (Among a b c) (Among d e f) = nat_eq a d && (nat_eq b e && nat_eq c f)
same_kind (OneOf a) (OneOf b) = same_texts a b
same_kind a b = false

abbrev pub has_kind : Option Kind → Kind → Bool
has_kind None kind = false
has_kind (Some other) kind = same_kind other kind

abbrev pub is_of_kind : Kind → Choice → Bool
is_of_kind (Within least most) (Number n) = lies_within least most n
is_of_kind (Among a b c) (Number n) = is_among a b c n
is_of_kind (OneOf texts) (Nth n) = nat_lt n (length (texts_of texts))
is_of_kind kind choice = false

abbrev pub default_fits : Need → Kind → Bool
default_fits (Default choice) kind = is_of_kind kind choice
default_fits need kind = true

abbrev pub are_sound : List Row → List Row → Bool
are_sound all [] = true
are_sound all (row ∷ rows) = has_kind (kind_of all row.key) row.kind && (default_fits row.need row.kind && are_sound all rows)

parts : (a b : Bool) → (a && b) ≡ true → (a ≡ true) × (b ≡ true)
parts true b e = (refl, e)
parts false b e = absurd (cc)

texts_exact : (a b : Texts) → same_texts a b ≡ true → a ≡ b
texts_exact Places Places e = refl
texts_exact Wraps Wraps e = refl
texts_exact Turns Turns e = refl
texts_exact Places Wraps e = absurd (cc)
texts_exact Places Turns e = absurd (cc)
texts_exact Wraps Places e = absurd (cc)
texts_exact Wraps Turns e = absurd (cc)
texts_exact Turns Places e = absurd (cc)
texts_exact Turns Wraps e = absurd (cc)

kind_exact : (a b : Kind) → same_kind a b ≡ true → a ≡ b
kind_exact FileName FileName e = refl
kind_exact (Within a b) (Within c d) e =
    let t = parts (nat_eq a c) (nat_eq b d) e in
    ap (λ n. Within n b) (eqb-true a c t.0) ∙ ap (Within c) (eqb-true b d t.1)
kind_exact (Among a b c) (Among d f g) e =
    let t = parts (nat_eq a d) (nat_eq b f && nat_eq c g) e in
    let u = parts (nat_eq b f) (nat_eq c g) t.1 in
    ap (λ n. Among n b c) (eqb-true a d t.0) ∙ ap (λ n. Among d n c) (eqb-true b f u.0) ∙ ap (Among d f) (eqb-true c g u.1)
kind_exact (OneOf a) (OneOf b) e = ap OneOf (texts_exact a b e)
kind_exact FileName (Within c d) e = absurd (cc)
kind_exact FileName (Among d f g) e = absurd (cc)
kind_exact FileName (OneOf b) e = absurd (cc)
kind_exact (Within a b) FileName e = absurd (cc)
kind_exact (Within a b) (Among d f g) e = absurd (cc)
kind_exact (Within a b) (OneOf d) e = absurd (cc)
kind_exact (Among a b c) FileName e = absurd (cc)
kind_exact (Among a b c) (Within d f) e = absurd (cc)
kind_exact (Among a b c) (OneOf d) e = absurd (cc)
kind_exact (OneOf a) FileName e = absurd (cc)
kind_exact (OneOf a) (Within c d) e = absurd (cc)
kind_exact (OneOf a) (Among d f g) e = absurd (cc)

option_kind_exact : (o : Option Kind) (kind : Kind) → has_kind o kind ≡ true → o ≡ Some kind
option_kind_exact None kind e = absurd (cc)
option_kind_exact (Some other) kind e = ap Some (kind_exact other kind e)

choice_of_kind : (kind : Kind) (choice : Choice) → is_of_kind kind choice ≡ true → IsOfKind kind (Chosen choice)
choice_of_kind (Within least most) (Number n) e = both least most n e
choice_of_kind (Among a b c) (Number n) e = one_of a b c n e
choice_of_kind (OneOf texts) (Nth n) e = grind (arith, nat_tests)
choice_of_kind FileName (Number n) e = absurd (cc)
choice_of_kind FileName (Nth n) e = absurd (cc)
choice_of_kind (Within least most) (Nth n) e = absurd (cc)
choice_of_kind (Among a b c) (Nth n) e = absurd (cc)
choice_of_kind (OneOf texts) (Number n) e = absurd (cc)

fits : (need : Need) (kind : Kind) → default_fits need kind ≡ true → DefaultFits need kind
fits Always kind e = tt
fits BelowAnother kind e = tt
fits (Default choice) kind e = choice_of_kind kind choice e

pub sound : (all rows : List Row) → are_sound all rows ≡ true → AreSound all rows
sound all [] e = tt
sound all (row ∷ rows) e =
    let t = parts (has_kind (kind_of all row.key) row.kind) (default_fits row.need row.kind && are_sound all rows) e in
    let u = parts (default_fits row.need row.kind) (are_sound all rows) t.1 in
    (option_kind_exact (kind_of all row.key) row.kind t.0, fits row.need row.kind u.0, sound all rows u.1)

-- the settings of the words with the defaults
pub record AreAll (rows : List Row) (all : List Setting) : Type 0 where
  pub settings : List Setting
  pub words : AreSettings rows settings
  pub whole : all ≡ with_defaults rows settings
  pub none : first_missing rows all ≡ None

pub all_of_words : (rows : List Row) (words : List (List ℕ)) (all : List Setting) → all_settings rows words ≡ Ok all → AreAll rows all
all_of_words rows words all e = tried (settings_of rows 2 [] words) refl e
  where
    whole : (settings : List Setting) (o : Option Row) → AreSettings rows settings → first_missing rows (with_defaults rows settings) ≡ o → unless_missing o (with_defaults rows settings) ≡ Ok all → AreAll rows all
    whole settings None s missing is =
        let same_list : with_defaults rows settings ≡ all = cc in
        record { settings = settings; words = s; whole = sym same_list; none = subst (λ xs. first_missing rows xs ≡ None) same_list missing }
    whole settings (Some row) s missing is = absurd (cc)

    tried : (r : Result (List Setting) WordFault) → settings_of rows 2 [] words ≡ r → and_then (λ settings. complete rows (with_defaults rows settings)) r ≡ Ok all → AreAll rows all
    tried (Err fault) was is = absurd (cc)
    tried (Ok settings) was is = whole settings (first_missing rows (with_defaults rows settings)) (settings_of_words rows words settings was) refl is

-- A default is a chosen value of its key's kind.

pub record IsDefault (rows : List Row) (key : Key) (value : Value) : Type 0 where
  pub kind : HasKind (kind_of rows key) value
  pub choice : Choice
  pub is : value ≡ Chosen choice

module _ (rows : List Row) where
  one_default : (key : Key) (kind : Kind) (need : Need) (rest : List Setting) (k : Key) (value : Value) → kind_of rows key ≡ Some kind → DefaultFits need kind
      → value_at k (Rattle.std.specs.List.cons_option (default_of (record { key = key; kind = kind; need = need })) rest) ≡ Some value → (value_at k rest ≡ Some value → IsDefault rows k value) → IsDefault rows k value
  one_default key kind Always rest k value is fits found later = later found
  one_default key kind BelowAnother rest k value is fits found later = later found
  one_default key kind (Default choice) rest k value is fits found later = tried (same_key key k) refl found
    where
      first : Setting
      first = record { key = key; value = Chosen choice }

      tried : (b : Bool) → same_key key k ≡ b → option_map (λ (s : Setting). s.value) (cond b (Some (record { key = key; value = Chosen choice })) (find (λ (s : Setting). same_key s.key k) rest)) ≡ Some value → IsDefault rows k value
      tried true same e =
          let here : Chosen choice ≡ value = cc in
          let its : kind_of rows k ≡ Some kind = ap (kind_of rows) (sym (key_exact key k same)) ∙ is in
          record {
            kind = subst (λ o. HasKind o value) (sym its) (subst (IsOfKind kind) here fits);
            choice = choice;
            is = sym here;
          }
      tried false same e = later e

  default_is : (some : List Row) → AreSound rows some → (k : Key) (value : Value) → value_at k (filter_map default_of some) ≡ Some value → IsDefault rows k value
  default_is [] sound k value e = absurd (cc)
  default_is (row ∷ some) sound k value e =
      one_default row.key row.kind row.need (filter_map default_of some) k value sound.0 sound.1 e (default_is some sound.2 k value)

module _ (rows : List Row) (all : List Setting) (sound : AreSound rows rows) (a : AreAll rows all) where
  abbrev defaults : List Setting
  defaults = filter_map default_of rows

  valued : (k : Key) → value_at k all ≡ option_or (value_at k a.settings) (value_at k defaults)
  valued k = ap (value_at k) a.whole ∙ value_at-append k a.settings defaults

  -- each value is of its key's kind
  pub of_kind : (k : Key) (value : Value) → value_at k all ≡ Some value → HasKind (kind_of rows k) value
  of_kind k value e = by (value_at k a.settings) refl (sym (valued k) ∙ e)
    where
      by : (o : Option Value) → value_at k a.settings ≡ o → option_or o (value_at k defaults) ≡ Some value → HasKind (kind_of rows k) value
      by (Some v) was found = a.words.kinds k value (was ∙ found)
      by None was found = (default_is rows rows sound k value found).kind

  -- a file name comes from a word
  from_word : (k : Key) (name : List ℕ) → value_at k all ≡ Some (Named name) → value_at k a.settings ≡ Some (Named name)
  from_word k name e = by (value_at k a.settings) refl (sym (valued k) ∙ e)
    where
      by : (o : Option Value) → value_at k a.settings ≡ o → option_or o (value_at k defaults) ≡ Some (Named name) → value_at k a.settings ≡ Some (Named name)
      by (Some v) was found = was ∙ found
      by None was found = let chosen = default_is rows rows sound k (Named name) found in let is : Named name ≡ Chosen chosen.choice = chosen.is in absurd (cc)

  -- two keys of one file name are the same
  pub one_key : (j k : Key) (name : List ℕ) → value_at j all ≡ Some (Named name) → value_at k all ≡ Some (Named name) → j ≡ k
  one_key j k name e f = a.words.apart j k name (from_word j name e) (from_word k name f)

  -- where no key is missing, each that needs a value has one
  valued_as : (key : Key) (kind : Kind) (need : Need) → kind_of rows key ≡ Some kind → (o : Option Value) → value_at key all ≡ o → (is_none o && is_needed all key need) ≡ false → IsGivenAs need kind o
  valued_as key kind Always is None was here = absurd (cc)
  valued_as key kind (Default choice) is None was here = absurd (cc)
  valued_as key kind BelowAnother is None was here = tt
  valued_as key kind Always is (Some value) was here = subst (λ o. HasKind o value) is (of_kind key value was)
  valued_as key kind (Default choice) is (Some value) was here = subst (λ o. HasKind o value) is (of_kind key value was)
  valued_as key kind BelowAnother is (Some value) was here = subst (λ o. HasKind o value) is (of_kind key value was)

  all_valued : (some : List Row) → AreSound rows some → first_missing some all ≡ None → HasAllValues some all
  all_valued [] known e = tt
  all_valued (row ∷ some) known e = tried (is_missing all row) refl e (all_valued some known.2)
    where
      tried : (b : Bool) → is_missing all row ≡ b → cond b (Some row) (first_missing some all) ≡ None → (first_missing some all ≡ None → HasAllValues some all) → IsGivenAs row.need row.kind (value_at row.key all) × HasAllValues some all
      tried true is found next = absurd (cc)
      tried false is found next = (valued_as row.key row.kind row.need known.0 (value_at row.key all) refl is, next found)

  pub full : HasAllValues rows all
  full = all_valued rows sound a.none

-- The value of a key of the table.

abbrev pub GivenBy : Option Row → Key → List Setting → Type 0
GivenBy None key all = Unit {0}
GivenBy (Some row) key all = IsGivenAs row.need row.kind (value_at key all)

pub given_at : (rows : List Row) (all : List Setting) → HasAllValues rows all → (key : Key) → GivenBy (find (λ (row : Row). same_key row.key key) rows) key all
given_at [] all h key = tt
given_at (row ∷ rows) all h key = tried (same_key row.key key) refl (given_at rows all h.1 key)
  where
    tried : (b : Bool) → same_key row.key key ≡ b → GivenBy (find (λ (r : Row). same_key r.key key) rows) key all → GivenBy (cond b (Some row) (find (λ (r : Row). same_key r.key key) rows)) key all
    tried true same later = subst (λ k. IsGivenAs row.need row.kind (value_at k all)) (key_exact row.key key same) h.0
    tried false same later = later

pub is_named : (o : Option Value) → IsSomeAnd o (IsOfKind FileName) → IsNamed o
is_named None h = absurd h
is_named (Some (Named name)) h = tt
is_named (Some (Chosen choice)) h = absurd h

-- the files of a run are named where they are the first of the table
pub names_given : (rows : List Row) (all : List Setting) → HasAllValues (with_files rows) all → HasNames all
names_given rows all full = record {
  sample = is_named (value_at key.Sample all) (given_at (with_files rows) all full key.Sample);
  out = is_named (value_at key.Out all) (given_at (with_files rows) all full key.Out);
  map = is_named (value_at key.Map all) (given_at (with_files rows) all full key.Map);
  record_file = is_named (value_at key.Record all) (given_at (with_files rows) all full key.Record);
}

-- and where they are the first of the table of a command with one sample
pub names_given_of_one : (rows : List Row) (all : List Setting) → HasAllValues (with_one_sample rows) all → HasNames all
names_given_of_one rows all full = record {
  sample = is_named (value_at key.Sample all) (given_at (with_one_sample rows) all full key.Sample);
  out = is_named (value_at key.Out all) (given_at (with_one_sample rows) all full key.Out);
  map = is_named (value_at key.Map all) (given_at (with_one_sample rows) all full key.Map);
  record_file = is_named (value_at key.Record all) (given_at (with_one_sample rows) all full key.Record);
}

-- The file names of some keys.

-- no key is one of the table
abbrev pub are_unknown : List Row → List Key → Bool
are_unknown rows [] = true
are_unknown rows (key ∷ keys) = is_none (kind_of rows key) && are_unknown rows keys

-- no two are the same key
abbrev pub differ : List Key → Bool
differ [] = true
differ (key ∷ keys) = not (list_any (same_key key) keys) && differ keys

neither : (a b : Bool) → not (a || b) ≡ true → (a ≡ false) × (not b ≡ true)
neither true b e = absurd (cc)
neither false b e = (refl, e)

-- a file name of any kind isn't empty
name_given : (o : Option Kind) (name : List ℕ) → HasKind o (Named name) → name ≢ []
name_given None name h = absurd h
name_given (Some FileName) name h = h
name_given (Some (Within least most)) name h = absurd h
name_given (Some (Among a b c)) name h = absurd h
name_given (Some (OneOf texts)) name h = absurd h

some_first : (o : Option (List ℕ)) (name : List ℕ) (rest : List (List ℕ)) → o ≡ Some name → 1 ≤ length (cons_option o rest)
some_first None name rest is = absurd (cc)
some_first (Some other) name rest is = omega arith

module _ (rows : List Row) (all : List Setting) (sound : AreSound rows rows) (a : AreAll rows all) where
  -- the names of those keys that have one
  abbrev names_at : List Key → List (List ℕ)
  names_at keys = filter_map (name_if_set all) keys

  given : (keys : List Key) → All (λ name. name ≢ []) (names_at keys)
  given [] = All-nil _
  given (key ∷ keys) = by (value_at key all) refl (given keys)
    where
      by : (o : Option Value) → value_at key all ≡ o → All (λ name. name ≢ []) (names_at keys) → All (λ name. name ≢ []) (cons_option (name_in o) (names_at keys))
      by None was rest = rest
      by (Some (Chosen choice)) was rest = rest
      by (Some (Named name)) was rest = All-cons (λ n. n ≢ []) name (names_at keys) (name_given (kind_of rows key) name (of_kind rows all sound a key (Named name) was)) rest

  -- a key's name is none of those of other keys
  apart_from : (key : Key) (name : List ℕ) → value_at key all ≡ Some (Named name) → (keys : List Key) → not (list_any (same_key key) keys) ≡ true → All (λ n. name ≢ n) (names_at keys)
  apart_from key name named [] e = All-nil _
  apart_from key name named (other ∷ keys) e =
      let test = neither (same_key key other) (list_any (same_key key) keys) e in
      by (value_at other all) refl test.0 (apart_from key name named keys test.1)
    where
      differs : (n : List ℕ) → value_at other all ≡ Some (Named n) → same_key key other ≡ false → name ≢ n
      differs n was unlike same_name =
          let one : key ≡ other = one_key rows all sound a key other name named (was ∙ ap (λ t. Some (Named t)) (sym same_name)) in
          let test : same_key key other ≡ true = ap (same_key key) (sym one) ∙ key_itself key in
          absurd (cc)

      by : (o : Option Value) → value_at other all ≡ o → same_key key other ≡ false → All (λ n. name ≢ n) (names_at keys) → All (λ n. name ≢ n) (cons_option (name_in o) (names_at keys))
      by None was unlike rest = rest
      by (Some (Chosen choice)) was unlike rest = rest
      by (Some (Named n)) was unlike rest = All-cons (λ t. name ≢ t) n (names_at keys) (differs n was unlike) rest

  apart_all : (keys : List Key) → differ keys ≡ true → AllPairs (λ a b. a ≢ b) (names_at keys)
  apart_all [] e = λ i j d lt below. absurd (omega arith)
  apart_all (key ∷ keys) e =
      let test = parts (not (list_any (same_key key) keys)) (differ keys) e in
      by (value_at key all) refl test.0 (apart_all keys test.1)
    where
      by : (o : Option Value) → value_at key all ≡ o → not (list_any (same_key key) keys) ≡ true → AllPairs (λ a b. a ≢ b) (names_at keys) → AllPairs (λ a b. a ≢ b) (cons_option (name_in o) (names_at keys))
      by None was unlike rest = rest
      by (Some (Chosen choice)) was unlike rest = rest
      by (Some (Named name)) was unlike rest = AllPairs-cons (λ a b. a ≢ b) name (names_at keys) (apart_from key name was keys unlike) rest

  pub are_names : (keys : List Key) → differ keys ≡ true → AreNames (names_at keys)
  are_names keys e = record { given = given keys; apart = apart_all keys e }

  name_set : (o : Option Value) → IsNamed o → name_in o ≡ Some (text_in o)
  name_set None h = absurd h
  name_set (Some (Named name)) h = refl
  name_set (Some (Chosen choice)) h = absurd h

  abbrev pub AreNamed : List Key → Type 0
  AreNamed [] = Unit {0}
  AreNamed (key ∷ keys) = IsNamed (value_at key all) × AreNamed keys

  -- the names of keys of which each has one
  pub names_set : (keys : List Key) → AreNamed keys → names_at keys ≡ map (λ k. text_of k all) keys
  names_set [] named = refl
  names_set (key ∷ keys) named =
      ap (λ o. cons_option o (names_at keys)) (name_set (value_at key all) named.0)
      ∙ ap (λ rest. text_of key all ∷ rest) (names_set keys named.1)

  -- the names of the samples, and after them those of keys of which each has one
  pub names_listed : (last : List Key) → IsNamed (value_at key.Sample all) → AreNamed last
      → names_at (key.Sample ∷ (more_keys ++ last)) ≡ text_of key.Sample all ∷ (more_names all ++ map (λ k. text_of k all) last)
  names_listed last first named =
      ap (λ o. cons_option o (names_at (more_keys ++ last))) (name_set (value_at key.Sample all) first)
      ∙ ap (λ rest. text_of key.Sample all ∷ rest)
      (filter_map-append (name_if_set all) more_keys last ∙ ap (λ rest. more_names all ++ rest) (names_set last named))

  -- where the second sample is set, there is a further one
  pub second_set : IsNamed (value_at (key.More 2) all) → 1 ≤ length (more_names all)
  second_set named = some_first (name_in (value_at (key.More 2) all)) _ _ (name_set (value_at (key.More 2) all) named)

  -- keys that aren't of the table have no names
  unnamed : (keys : List Key) → are_unknown rows keys ≡ true → names_at keys ≡ []
  unnamed [] e = refl
  unnamed (key ∷ keys) e =
      let test = parts (is_none (kind_of rows key)) (are_unknown rows keys) e in
      by (value_at key all) refl test.0 (unnamed keys test.1)
    where
      no_kind : (o : Option Kind) (value : Value) → is_none o ≡ true → HasKind o value → ⊥
      no_kind None value e h = h
      no_kind (Some kind) value e h = absurd (cc)

      by : (o : Option Value) → value_at key all ≡ o → is_none (kind_of rows key) ≡ true → names_at keys ≡ [] → cons_option (name_in o) (names_at keys) ≡ []
      by None was unknown rest = rest
      by (Some value) was unknown rest = absurd (no_kind (kind_of rows key) value unknown (of_kind rows all sound a key value was))

  -- a table without the keys of further samples gives none of their names
  pub none_further : are_unknown rows more_keys ≡ true → more_names all ≡ []
  none_further e = unnamed more_keys e

  pub names_of_run : HasNames all → AreNames (name_list (names_of all))
  names_of_run has =
      let last = key.Out ∷ key.Map ∷ key.Record ∷ [] in
      subst AreNames (names_listed last has.sample (has.out, (has.map, (has.record_file, tt)))) (are_names (key.Sample ∷ (more_keys ++ last)) refl)

-- A number in its range, and the position of a text in its list.

pub number_within : (least most : ℕ) (o : Option Value) → IsSomeAnd o (IsOfKind (Within least most)) → (least ≤ number_in o) × (number_in o ≤ most)
number_within least most None h = absurd h
number_within least most (Some (Named name)) h = absurd h
number_within least most (Some (Chosen (Number n))) h = h
number_within least most (Some (Chosen (Nth n))) h = absurd h

pub numeric : (least most : ℕ) (o : Option Value) → IsSomeAnd o (IsOfKind (Within least most)) → IsNumeric o
numeric least most None h = absurd h
numeric least most (Some (Named name)) h = absurd h
numeric least most (Some (Chosen (Number n))) h = tt
numeric least most (Some (Chosen (Nth n))) h = absurd h

pub position : (texts : Texts) (o : Option Value) → IsSomeAnd o (IsOfKind (OneOf texts)) → IsPosition o × (nth_in o < length (texts_of texts))
position texts None h = absurd h
position texts (Some (Named name)) h = absurd h
position texts (Some (Chosen (Number n))) h = absurd h
position texts (Some (Chosen (Nth n))) h = (tt, h)
