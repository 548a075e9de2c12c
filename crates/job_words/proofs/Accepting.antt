-- One word that is accepted: it sets a key that was unset to a value of its kind, and a file name that no setting has.
use Rattle.std.proofs.Common.{◌≡◌, ◌≢◌, ℕ, ◌≤◌, List, [], ◌∷◌, refl, sym, ap, ◌∙◌, subst, arith, ◌⊎◌, inl, inr, Bool, true, false, ◌||◌, eqb-true}
use Rattle.std.specs.Prelude.{Option, Some, None, is_some, Result, Ok, Err, if◌then◌else◌, nat_eq, position}
use Rattle.std.specs.Str.Parse.{digits_value}
use Rattle.std.proofs.lemmas.Bool.Decides.{nat_tests}
use Rattle.std.proofs.lemmas.List.Quantifiers.{position-Some}
use Rattle.job_words.specs.declared.job.WordFault.{WordFault}
use Rattle.job_words.specs.declared.job.WordFault.TheVariants.{BadWord, Repeated, BadValue, OutOfRange, SameName}
use Rattle.job_words.specs.declared.keys.Key.{Key}
use Rattle.job_words.specs.declared.table.Kind.{Kind}
use Rattle.job_words.specs.declared.table.Kind.TheVariants.{FileName, Within, Among, OneOf}
use Rattle.job_words.specs.declared.table.Texts.{Texts}
use Rattle.job_words.specs.declared.table.Choice.{Choice}
use Rattle.job_words.specs.declared.table.Choice.TheVariants.{Number, Nth}
use Rattle.job_words.specs.declared.table.Row.{Row}
use Rattle.job_words.specs.declared.settings.Value.{Value}
use Rattle.job_words.specs.declared.settings.Value.TheVariants.{Named, Chosen}
use Rattle.job_words.specs.declared.settings.Setting.{Setting}
use Rattle.job_words.specs.Texts.{is_empty, same_text}
use Rattle.job_words.specs.Tables.{IsOfKind, texts_of}
use Rattle.job_words.specs.Words.{before_equals, after_equals, row_of, value_at, is_taken, in_range, is_among, is_numeral, lies_within, position_value, number_of, value_of, set_to, setting_by, setting_of}

pub record Accepted (rows : List Row) (settings : List Setting) (new : Setting) : Type 0 where
  pub row : Row
  pub text : List ℕ
  pub found : row_of rows text ≡ Some row
  pub key : new.key ≡ row.key
  pub unset : value_at row.key settings ≡ None
  pub kind : IsOfKind row.kind new.value
  pub fresh : (name : List ℕ) → new.value ≡ Named name → is_taken name settings ≡ false

-- an answer that may be a refusal is the other one where it is no refusal
other : {A : Type 0} (b : Bool) (fault : WordFault) (r : Result A WordFault) (x : A) → (if b then Err fault else r) ≡ Ok x → (b ≡ false) × (r ≡ Ok x)
other true fault r x e = absurd (cc)
other false fault r x e = (refl, e)

other_first : {A : Type 0} (b : Bool) (fault : WordFault) (r : Result A WordFault) (x : A) → (if b then r else Err fault) ≡ Ok x → (b ≡ true) × (r ≡ Ok x)
other_first true fault r x e = (refl, e)
other_first false fault r x e = absurd (cc)

given : (bytes : List ℕ) → is_empty bytes ≡ false → bytes ≢ []
given [] e = absurd (cc)
given (b ∷ bytes) e = λ h. cc

record IsRead (kind : Kind) (settings : List Setting) (value : Value) : Type 0 where
  of_kind : IsOfKind kind value
  fresh : (name : List ℕ) → value ≡ Named name → is_taken name settings ≡ false

-- a number that was read passes the test of its range
record IsNumberRead (test : ℕ → Bool) (value : Value) : Type 0 where
  number : ℕ
  passes : test number ≡ true
  is : value ≡ Chosen (Number number)

number_read : (i : ℕ) (test : ℕ → Bool) (text : List ℕ) (value : Value) → number_of i test text ≡ Ok value → IsNumberRead test value
number_read i test text value e =
    let n = digits_value 10 text in
    let o = other_first (is_numeral text) (BadValue i) (in_range i (test n) n) value e in
    let p = other_first (test n) (OutOfRange i) (Ok (Chosen (Number n))) value o.1 in
    let is : Chosen (Number n) ≡ value = cc in
    record { number = n; passes = p.0; is = sym is }

-- a value that isn't a name is one that no setting has
chosen_read : (kind : Kind) (settings : List Setting) (choice : Choice) (value : Value) → value ≡ Chosen choice → IsOfKind kind (Chosen choice) → IsRead kind settings value
chosen_read kind settings choice value is of_kind = record {
  of_kind = subst (IsOfKind kind) (sym is) of_kind;
  fresh = λ name named. absurd (cc);
}

pub both : (least most n : ℕ) → lies_within least most n ≡ true → (least ≤ n) × (n ≤ most)
both least most n e = grind (arith, nat_tests)

pub one_of : (a b c n : ℕ) → is_among a b c n ≡ true → (n ≡ a) ⊎ (n ≡ b) ⊎ (n ≡ c)
one_of a b c n e = tried (nat_eq n a) (nat_eq n b) (nat_eq n c) refl refl refl e
  where
    tried : (x y z : Bool) → nat_eq n a ≡ x → nat_eq n b ≡ y → nat_eq n c ≡ z → (x || y || z) ≡ true → (n ≡ a) ⊎ (n ≡ b) ⊎ (n ≡ c)
    tried true y z is_a is_b is_c some = inl (eqb-true n a is_a)
    tried false true z is_a is_b is_c some = inr (inl (eqb-true n b is_b))
    tried false false true is_a is_b is_c some = inr (inr (eqb-true n c is_c))
    tried false false false is_a is_b is_c some = absurd (cc)

position_read : (i : ℕ) (settings : List Setting) (texts : Texts) (o : Option ℕ) (text : List ℕ) (value : Value) → position (same_text text) (texts_of texts) ≡ o → position_value i o ≡ Ok value → IsRead (OneOf texts) settings value
position_read i settings texts None text value found e = absurd (cc)
position_read i settings texts (Some n) text value found e =
    let is : Chosen (Nth n) ≡ value = cc in
    chosen_read (OneOf texts) settings (Nth n) value (sym is) (position-Some (same_text text) (texts_of texts) n [] found).0

read : (i : ℕ) (settings : List Setting) (kind : Kind) (text : List ℕ) (value : Value) → text ≢ [] → value_of i settings kind text ≡ Ok value → IsRead kind settings value
read i settings FileName text value some e =
    let o = other (is_taken text settings) (SameName i) (Ok (Named text)) value e in
    let is : Named text ≡ value = cc in
    subst (λ v. IsRead FileName settings v) is (record { of_kind = some; fresh = λ name h. let same_name : text ≡ name = cc in subst (λ t. is_taken t settings ≡ false) same_name o.0 })
read i settings (Within least most) text value some e =
    let r = number_read i (lies_within least most) text value e in
    chosen_read (Within least most) settings (Number r.number) value r.is (both least most r.number r.passes)
read i settings (Among a b c) text value some e =
    let r = number_read i (is_among a b c) text value e in
    chosen_read (Among a b c) settings (Number r.number) value r.is (one_of a b c r.number r.passes)
read i settings (OneOf texts) text value some e =
    position_read i settings texts (position (same_text text) (texts_of texts)) text value refl e

set : (key : Key) (r : Result Value WordFault) (new : Setting) → set_to key r ≡ Ok new → (value : Value) × (r ≡ Ok value) × (new.key ≡ key) × (new.value ≡ value)
set key (Ok value) new e =
    let is : record { key = key; value = value } ≡ new = cc in
    (value, refl, sym (ap (λ (s : Setting). s.key) is), sym (ap (λ (s : Setting). s.value) is))
set key (Err fault) new e = absurd (cc)

unset_from : (o : Option Value) → is_some o ≡ false → o ≡ None
unset_from None e = refl
unset_from (Some v) e = absurd (cc)

by_row : (rows : List Row) (i : ℕ) (settings : List Setting) (key text : List ℕ) (o : Option Row) (new : Setting) → row_of rows key ≡ o → text ≢ [] → setting_by i settings o text ≡ Ok new → Accepted rows settings new
by_row rows i settings key text None new found some e = absurd (cc)
by_row rows i settings key text (Some row) new found some e =
    let o = other (is_some (value_at row.key settings)) (Repeated i) (set_to row.key (value_of i settings row.kind text)) new e in
    let s = set row.key (value_of i settings row.kind text) new o.1 in
    let r = read i settings row.kind text s.0 some s.1 in
    record {
      row = row;
      text = key;
      found = found;
      key = s.2;
      unset = unset_from (value_at row.key settings) o.0;
      kind = subst (IsOfKind row.kind) (sym s.3) r.of_kind;
      fresh = λ name h. r.fresh name (sym s.3 ∙ h);
    }

neither : (a b : Bool) → (a || b) ≡ false → (a ≡ false) × (b ≡ false)
neither true b e = absurd (cc)
neither false b e = (refl, e)

pub accepted : (rows : List Row) (i : ℕ) (settings : List Setting) (word : List ℕ) (new : Setting) → setting_of rows i settings word ≡ Ok new → Accepted rows settings new
accepted rows i settings word new e =
    let o = other (is_empty (before_equals word) || is_empty (after_equals word)) (BadWord i) (setting_by i settings (row_of rows (before_equals word)) (after_equals word)) new e in
    by_row rows i settings (before_equals word) (after_equals word) (row_of rows (before_equals word)) new refl
    (given (after_equals word) (neither (is_empty (before_equals word)) (is_empty (after_equals word)) o.0).1) o.1
