-- The settings of a list of words by a table of keys, or the words' first refusal. To be trusted:
-- contracts cite these words. (Own.)
use Rattle.std.specs.Prelude.{◌≡◌, ◌⊎◌, ℕ, ◌+◌, ◌||◌, ◌&&◌, ◌==◌, nat_eq, nat_le, nat_lt, Bool, true, false, List, [], ◌∷◌, ◌++◌, find, filter_map, position, Option, Some, None, option_map, is_some, is_none, Result, Ok, Err, IsErrOf, IfSome, if◌then◌else◌}
use Rattle.std.specs.List.{before_first, after_first, list_any, list_all}
use Rattle.std.specs.Option.{IsSomeAnd}
use Rattle.std.specs.Char.{is_ascii_digit}
use Rattle.std.specs.Str.Parse.{digits_value}
use Rattle.job_words.specs.declared.job.WordFault.{WordFault}
use Rattle.job_words.specs.declared.job.WordFault.TheVariants.{BadWord, UnknownKey, Repeated, Missing, BadValue, OutOfRange, SameName, NoMemory}
use Rattle.job_words.specs.declared.keys.Key.{Key}
use Rattle.job_words.specs.declared.table.Texts.{Texts}
use Rattle.job_words.specs.declared.table.Kind.{Kind}
use Rattle.job_words.specs.declared.table.Kind.TheVariants.{FileName, Within, Among, OneOf}
use Rattle.job_words.specs.declared.table.Choice.{Choice}
use Rattle.job_words.specs.declared.table.Choice.TheVariants.{Number, Nth}
use Rattle.job_words.specs.declared.table.Need.{Need}
use Rattle.job_words.specs.declared.table.Need.TheVariants.{Default, BelowAnother}
use Rattle.job_words.specs.declared.table.Row.{Row}
use Rattle.job_words.specs.declared.settings.Value.{Value}
use Rattle.job_words.specs.declared.settings.Value.TheVariants.{Named, Chosen}
use Rattle.job_words.specs.declared.settings.Setting.{Setting}
use Rattle.job_words.specs.Texts.{same_text, is_empty}
use Rattle.job_words.specs.Keys.{key_text, key_number, same_key}
use Rattle.job_words.specs.Tables.{IsOfKind, texts_of}

abbrev pub OrFault : Type 0 → Type 0
OrFault T = Result T WordFault

-- a call answers so, or it is out of memory
abbrev pub AnswersAs : {T : Type 0} → OrFault T → OrFault T → Type 0
AnswersAs expected answer = (answer ≡ expected) ⊎ IsErrOf answer NoMemory

-- what follows where there was no refusal
abbrev pub and_then : {T U : Type 0} → (T → OrFault U) → OrFault T → OrFault U
and_then next (Ok x) = next x
and_then next (Err fault) = Err fault

-- A word is a key, `=` and a value. The key ends at the first `=`, and neither is empty.

abbrev pub is_equals : ℕ → Bool
is_equals b = b == 61

abbrev pub before_equals : List ℕ → List ℕ
before_equals word = before_first is_equals word

-- nothing where there is no `=`
abbrev pub after_equals : List ℕ → List ℕ
after_equals word = after_first is_equals word

abbrev pub has_text : List ℕ → Row → Bool
has_text text row = same_text (key_text row.key) text

-- the key with this text
abbrev pub row_of : List Row → List ℕ → Option Row
row_of rows text = find (has_text text) rows

-- The settings of the words so far, in their order.

abbrev pub is_of : Key → Setting → Bool
is_of key setting = same_key setting.key key

-- the value of a key, where it is set
abbrev pub value_at : Key → List Setting → Option Value
value_at key settings =
    option_map (λ (setting : Setting). setting.value) (find (is_of key) settings)

abbrev pub is_name : List ℕ → Value → Bool
is_name text (Named name) = same_text name text
is_name text (Chosen choice) = false

-- some setting has this file name
abbrev pub is_taken : List ℕ → List Setting → Bool
is_taken text settings = list_any (λ (setting : Setting). is_name text setting.value) settings

-- A text as a value of its kind, in word number i.

abbrev pub name_of : ℕ → List Setting → List ℕ → OrFault Value
name_of i settings text = if is_taken text settings then Err (SameName i) else Ok (Named text)

-- the number, where it passes the test of its range
abbrev pub in_range : ℕ → Bool → ℕ → OrFault Value
in_range i test n = if test then Ok (Chosen (Number n)) else Err (OutOfRange i)

-- decimal digits, of any length and with leading zeros or none
abbrev pub is_numeral : List ℕ → Bool
is_numeral text = list_all is_ascii_digit text

abbrev pub lies_within : ℕ → ℕ → ℕ → Bool
lies_within least most n = nat_le least n && nat_le n most

abbrev pub is_among : ℕ → ℕ → ℕ → ℕ → Bool
is_among a b c n = nat_eq n a || nat_eq n b || nat_eq n c

abbrev pub number_of : ℕ → (ℕ → Bool) → List ℕ → OrFault Value
number_of i is_lawful text =
    if is_numeral text then in_range i (is_lawful (digits_value 10 text)) (digits_value 10 text)
    else Err (BadValue i)

abbrev pub position_value : ℕ → Option ℕ → OrFault Value
position_value i None = Err (BadValue i)
position_value i (Some n) = Ok (Chosen (Nth n))

-- the position of the text in its list
abbrev pub text_value : ℕ → Texts → List ℕ → OrFault Value
text_value i texts text = position_value i (position (same_text text) (texts_of texts))

abbrev pub value_of : ℕ → List Setting → Kind → List ℕ → OrFault Value
value_of i settings FileName text = name_of i settings text
value_of i settings (Within least most) text = number_of i (lies_within least most) text
value_of i settings (Among a b c) text = number_of i (is_among a b c) text
value_of i settings (OneOf texts) text = text_value i texts text

abbrev pub set_to : Key → OrFault Value → OrFault Setting
set_to key (Ok value) = Ok (record { key = key; value = value })
set_to key (Err fault) = Err fault

abbrev pub setting_by : ℕ → List Setting → Option Row → List ℕ → OrFault Setting
setting_by i settings None text = Err (UnknownKey i)
setting_by i settings (Some row) text =
    if is_some (value_at row.key settings) then Err (Repeated i)
    else set_to row.key (value_of i settings row.kind text)

-- word number i as a setting, or its refusal
abbrev pub setting_of : List Row → ℕ → List Setting → List ℕ → OrFault Setting
setting_of rows i settings word =
    if is_empty (before_equals word) || is_empty (after_equals word) then Err (BadWord i)
    else setting_by i settings (row_of rows (before_equals word)) (after_equals word)

-- the settings after the words from number i on, or the refusal of the first word that has one
abbrev pub settings_of : List Row → ℕ → List Setting → List (List ℕ) → OrFault (List Setting)
settings_of rows i settings [] = Ok settings
settings_of rows i settings (word ∷ words) =
    and_then (λ (setting : Setting). settings_of rows (i + 1) (settings ++ setting ∷ []) words)
    (setting_of rows i settings word)

-- After all words.

abbrev pub default_in : Need → Option Choice
default_in (Default choice) = Some choice
default_in need = None

abbrev pub default_of : Row → Option Setting
default_of row =
    option_map (λ (choice : Choice). record { key = row.key; value = Chosen choice })
    (default_in row.need)

-- the settings of the words and then the defaults: the first setting of a key holds
abbrev pub with_defaults : List Row → List Setting → List Setting
with_defaults rows settings = settings ++ filter_map default_of rows

abbrev pub is_greater : Option ℕ → Option ℕ → Bool
is_greater (Some n) (Some m) = nat_lt n m
is_greater n m = false

-- a further sample of a greater number is set
abbrev pub is_below_another : List Setting → Key → Bool
is_below_another settings key =
    list_any (λ (setting : Setting). is_greater (key_number key) (key_number setting.key)) settings

abbrev pub is_needed : List Setting → Key → Need → Bool
is_needed settings key BelowAnother = is_below_another settings key
is_needed settings key need = true

abbrev pub is_missing : List Setting → Row → Bool
is_missing settings row = is_none (value_at row.key settings) && is_needed settings row.key row.need

-- the first key that has no value and needs one
abbrev pub first_missing : List Row → List Setting → Option Row
first_missing rows settings = find (is_missing settings) rows

abbrev pub unless_missing : Option Row → List Setting → OrFault (List Setting)
unless_missing None settings = Ok settings
unless_missing (Some row) settings = Err (Missing row.key)

abbrev pub complete : List Row → List Setting → OrFault (List Setting)
complete rows settings = unless_missing (first_missing rows settings) settings

-- the value of each key, by the words and the defaults
abbrev pub all_settings : List Row → List (List ℕ) → OrFault (List Setting)
all_settings rows words =
    and_then (λ settings. complete rows (with_defaults rows settings)) (settings_of rows 2 [] words)

-- The values of keys, as the fields of a job take them. A value of another kind doesn't occur.

abbrev pub text_in : Option Value → List ℕ
text_in (Some (Named name)) = name
text_in value = []

abbrev pub number_in : Option Value → ℕ
number_in (Some (Chosen (Number n))) = n
number_in value = 0

-- the position of a text in its list
abbrev pub nth_in : Option Value → ℕ
nth_in (Some (Chosen (Nth n))) = n
nth_in value = 0

abbrev pub text_of : Key → List Setting → List ℕ
text_of key settings = text_in (value_at key settings)

abbrev pub number_at : Key → List Setting → ℕ
number_at key settings = number_in (value_at key settings)

abbrev pub nth_at : Key → List Setting → ℕ
nth_at key settings = nth_in (value_at key settings)

-- the value is a file name, a number, a text of a list
abbrev pub IsNamed : Option Value → Type 0
IsNamed (Some (Named name)) = Unit {0}
IsNamed value = ⊥

abbrev pub IsNumeric : Option Value → Type 0
IsNumeric (Some (Chosen (Number n))) = Unit {0}
IsNumeric value = ⊥

abbrev pub IsPosition : Option Value → Type 0
IsPosition (Some (Chosen (Nth n))) = Unit {0}
IsPosition value = ⊥

-- a key has a value of its kind, or none where it needs none
abbrev pub IsGivenAs : Need → Kind → Option Value → Type 0
IsGivenAs BelowAnother kind value = IfSome value (IsOfKind kind)
IsGivenAs need kind value = IsSomeAnd value (IsOfKind kind)

-- the key has a value of this kind
abbrev pub IsGiven : Kind → Key → List Setting → Type 0
IsGiven kind key settings = IsSomeAnd (value_at key settings) (IsOfKind kind)

-- each key of the table has a value so
abbrev pub HasAllValues : List Row → List Setting → Type 0
HasAllValues [] settings = Unit {0}
HasAllValues (row ∷ rows) settings =
    IsGivenAs row.need row.kind (value_at row.key settings) × HasAllValues rows settings
