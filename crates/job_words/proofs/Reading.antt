-- The words in a row: a step of the reading, and what the settings of words are.
use Rattle.std.proofs.Common.{◌≡◌, ℕ, suc, ◌+◌, ◌<◌, List, [], ◌∷◌, ◌++◌, length, get_or, take, drop, refl, sym, ap, ◌∙◌, subst, arith, Bool, true, false, cond, ◌||◌, ◌⊎◌, inl, inr, drop-cons, add-one, length-append, append_assoc}
use Rattle.std.specs.Prelude.{Option, Some, None, option_map, find, filter_map, Result, Ok, Err, IsErrOf}
use Rattle.std.specs.List.{cons_option}
use Rattle.std.specs.Option.{option_or}
use Rattle.std.proofs.lemmas.List.Elements.{filter_map-append}
use Rattle.std.proofs.Math.Seq.{take-suc}
use Rattle.job_words.specs.declared.job.WordFault.{WordFault}
use Rattle.job_words.specs.declared.job.WordFault.TheVariants.{NoMemory}
use Rattle.job_words.specs.declared.keys.Key.{Key}
use Rattle.job_words.specs.declared.table.Kind.{Kind}
use Rattle.job_words.specs.declared.table.Row.{Row}
use Rattle.job_words.specs.declared.settings.Value.{Value}
use Rattle.job_words.specs.declared.settings.Value.TheVariants.{Named}
use Rattle.job_words.specs.declared.settings.Setting.{Setting}
use Rattle.job_words.specs.Keys.{key_text, same_key}
use Rattle.job_words.specs.Texts.{same_text}
use Rattle.job_words.specs.Words.{AnswersAs, and_then, has_text, row_of, is_of, value_at, is_name, is_taken, setting_of, settings_of, default_of}
use Rattle.job_words.specs.Tables.{IsOfKind}
use Rattle.job_words.proofs.Texting.{same_itself}
use Rattle.job_words.proofs.Keyed.{key_exact, key_itself, value_at-append}
use Rattle.job_words.proofs.Accepting.{Accepted, accepted}

-- the reading after one word more
pub word_read : (rows : List Row) (settings : List Setting) (words : List (List ℕ)) (i n : ℕ) (word : List ℕ) (new : Setting) (all : Result (List Setting) WordFault)
    → i < length words → word ≡ get_or words i word → n ≡ length settings + 2 → setting_of rows n settings word ≡ Ok new
    → settings_of rows (length settings + 2) settings (drop i words) ≡ all
    → settings_of rows (length (settings ++ new ∷ []) + 2) (settings ++ new ∷ []) (drop (i + 1) words) ≡ all
word_read rows settings words i n word new all lt is number ok so_far =
    let tail : drop i words ≡ word ∷ drop (i + 1) words = drop-cons words i word lt ∙ ap (λ w. w ∷ drop (suc i) words) (sym is) ∙ ap (λ k. word ∷ drop k words) (sym (add-one i)) in
    let longer : length (settings ++ new ∷ []) + 2 ≡ n + 1 = omega (arith, length-append settings (new ∷ []), number) in
    ap (λ k. settings_of rows k (settings ++ new ∷ []) (drop (i + 1) words)) longer
    ∙ sym (ap (and_then (λ (s : Setting). settings_of rows (n + 1) (settings ++ s ∷ []) (drop (i + 1) words))) ok)
    ∙ ap (λ k. settings_of rows k settings (word ∷ drop (i + 1) words)) number
    ∙ ap (λ ws. settings_of rows (length settings + 2) settings ws) (sym tail)
    ∙ so_far

-- a word that is refused is the answer of all words
pub refused : (rows : List Row) (settings : List Setting) (words : List (List ℕ)) (i n : ℕ) (word : List ℕ) (fault : WordFault) (all : Result (List Setting) WordFault)
    → i < length words → word ≡ get_or words i word → n ≡ length settings + 2 → AnswersAs (setting_of rows n settings word) (Err fault)
    → settings_of rows (length settings + 2) settings (drop i words) ≡ all → (all ≡ Err fault) ⊎ (fault ≡ NoMemory)
refused rows settings words i n word fault all lt is number (inl err) so_far =
    let tail : drop i words ≡ word ∷ drop (i + 1) words = drop-cons words i word lt ∙ ap (λ w. w ∷ drop (suc i) words) (sym is) ∙ ap (λ k. word ∷ drop k words) (sym (add-one i)) in
    inl (sym so_far ∙ ap (λ ws. settings_of rows (length settings + 2) settings ws) tail
    ∙ ap (λ k. settings_of rows k settings (word ∷ drop (i + 1) words)) (sym number)
    ∙ ap (and_then (λ (s : Setting). settings_of rows (n + 1) (settings ++ s ∷ []) (drop (i + 1) words))) (sym err))
refused rows settings words i n word fault all lt is number (inr none) so_far = inr (let same : fault ≡ NoMemory = cc in same)

-- the settings after the default of one row more
pub default_added : (rows : List Row) (i : ℕ) (d : Row) (o : Option Setting) (start so_far now : List Setting) → i < length rows → o ≡ default_of (get_or rows i d)
    → so_far ≡ start ++ filter_map default_of (take i rows) → now ≡ so_far ++ cons_option o [] → now ≡ start ++ filter_map default_of (take (i + 1) rows)
default_added rows i d o start so_far now lt is before step =
    let more : filter_map default_of (take (i + 1) rows) ≡ filter_map default_of (take i rows) ++ cons_option (default_of (get_or rows i d)) [] =
    ap (λ k. filter_map default_of (take k rows)) (add-one i) ∙ ap (filter_map default_of) (take-suc rows i d lt)
    ∙ filter_map-append default_of (take i rows) (get_or rows i d ∷ []) in
    step ∙ ap (λ xs. xs ++ cons_option o []) before ∙ append_assoc start _ _
    ∙ ap (λ xs. start ++ (filter_map default_of (take i rows) ++ cons_option xs [])) is ∙ ap (λ xs. start ++ xs) (sym more)

-- What the settings of words are.

abbrev pub kind_of : List Row → Key → Option Kind
kind_of rows key = option_map (λ (row : Row). row.kind) (find (λ (row : Row). same_key row.key key) rows)

abbrev pub HasKind : Option Kind → Value → Type 0
HasKind None value = ⊥
HasKind (Some kind) value = IsOfKind kind value

pub record AreSettings (rows : List Row) (settings : List Setting) : Type 0 where
  pub kinds : (key : Key) (value : Value) → value_at key settings ≡ Some value → HasKind (kind_of rows key) value
  pub apart : (j k : Key) (name : List ℕ) → value_at j settings ≡ Some (Named name) → value_at k settings ≡ Some (Named name) → j ≡ k

nothing_set : (rows : List Row) → AreSettings rows []
nothing_set rows = record { kinds = λ key value e. absurd (cc); apart = λ j k name e f. absurd (cc) }

-- the row that a text finds has the text
text_of_found : (rows : List Row) (text : List ℕ) (row : Row) → row_of rows text ≡ Some row → has_text text row ≡ true
text_of_found [] text row e = absurd (cc)
text_of_found (r ∷ rows) text row e = tried (has_text text r) refl e (text_of_found rows text row)
  where
    tried : (b : Bool) → has_text text r ≡ b → cond b (Some r) (row_of rows text) ≡ Some row → (row_of rows text ≡ Some row → has_text text row ≡ true) → has_text text row ≡ true
    tried true test found later = let is : r ≡ row = cc in subst (λ q. has_text text q ≡ true) is test
    tried false test found later = later found

-- and its key finds it
kind_of_found : (rows : List Row) (text : List ℕ) (row : Row) → row_of rows text ≡ Some row → kind_of rows row.key ≡ Some row.kind
kind_of_found [] text row e = absurd (cc)
kind_of_found (r ∷ rows) text row e = tried (has_text text r) (same_key r.key row.key) refl refl e (kind_of_found rows text row)
  where
    tried : (b d : Bool) → has_text text r ≡ b → same_key r.key row.key ≡ d → cond b (Some r) (row_of rows text) ≡ Some row → (row_of rows text ≡ Some row → kind_of rows row.key ≡ Some row.kind)
        → option_map (λ (q : Row). q.kind) (cond d (Some r) (find (λ (q : Row). same_key q.key row.key) rows)) ≡ Some row.kind
    tried true true test key found later = let is : r ≡ row = cc in ap (λ (q : Row). Some q.kind) is
    tried true false test key found later =
        let is : r ≡ row = cc in
        let own : same_key r.key row.key ≡ true = subst (λ (q : Row). same_key r.key q.key ≡ true) is (key_itself r.key) in
        absurd (cc)
    tried false true test key found later =
        let is : r.key ≡ row.key = key_exact r.key row.key key in
        let own : has_text text r ≡ true = subst (λ k. same_text (key_text k) text ≡ true) (sym is) (text_of_found rows text row found) in
        absurd (cc)
    tried false false test key found later = later found

-- a name that some key has is taken
taken : (settings : List Setting) (key : Key) (name : List ℕ) → value_at key settings ≡ Some (Named name) → is_taken name settings ≡ true
taken [] key name e = absurd (cc)
taken (s ∷ settings) key name e = tried (is_of key s) e (taken settings key name)
  where
    tried : (b : Bool) → option_map (λ (q : Setting). q.value) (cond b (Some s) (find (is_of key) settings)) ≡ Some (Named name) → (value_at key settings ≡ Some (Named name) → is_taken name settings ≡ true)
        → (is_name name s.value || is_taken name settings) ≡ true
    tried true found later =
        let is : s.value ≡ Named name = cc in
        ap (λ v. is_name name v || is_taken name settings) is ∙ ap (λ b. b || is_taken name settings) (same_itself name)
    tried false found later = let rest : is_taken name settings ≡ true = later found in grind arith

-- the value of a key after one setting more
one_more : (key : Key) (settings : List Setting) (new : Setting) (value : Value) → value_at key (settings ++ new ∷ []) ≡ Some value
    → (value_at key settings ≡ Some value) ⊎ ((new.key ≡ key) × (new.value ≡ value))
one_more key settings new value e = old (value_at key settings) refl (sym (value_at-append key settings (new ∷ [])) ∙ e)
  where
    this : (b : Bool) → same_key new.key key ≡ b → option_map (λ (q : Setting). q.value) (cond b (Some new) None) ≡ Some value → (new.key ≡ key) × (new.value ≡ value)
    this true test found = (key_exact new.key key test, cc)
    this false test found = absurd (cc)

    old : (o : Option Value) → value_at key settings ≡ o → option_or o (value_at key (new ∷ [])) ≡ Some value → (value_at key settings ≡ Some value) ⊎ ((new.key ≡ key) × (new.value ≡ value))
    old None was found = inr (this (same_key new.key key) refl found)
    old (Some v) was found = inl (was ∙ found)

word_more : (rows : List Row) (settings : List Setting) (new : Setting) → Accepted rows settings new → AreSettings rows settings → AreSettings rows (settings ++ new ∷ [])
word_more rows settings new a s = record { kinds = kinds; apart = apart }
  where
    kinds : (key : Key) (value : Value) → value_at key (settings ++ new ∷ []) ≡ Some value → HasKind (kind_of rows key) value
    kinds key value e = elim (one_more key settings new value e) [
      | inl old ↦ s.kinds key value old
      | inr this ↦
          let kind : kind_of rows key ≡ Some a.row.kind = ap (kind_of rows) (sym this.0 ∙ a.key) ∙ kind_of_found rows a.text a.row a.found in
          subst (λ o. HasKind o value) (sym kind) (subst (IsOfKind a.row.kind) this.1 a.kind)
    ]

    apart : (j k : Key) (name : List ℕ) → value_at j (settings ++ new ∷ []) ≡ Some (Named name) → value_at k (settings ++ new ∷ []) ≡ Some (Named name) → j ≡ k
    apart j k name e f = elim (one_more j settings new (Named name) e) [
      | inl old ↦ elim (one_more k settings new (Named name) f) [
        | inl old' ↦ s.apart j k name old old'
        | inr this' ↦ let free = a.fresh name this'.1 in let used = taken settings j name old in absurd (cc)
      ]
      | inr this ↦ elim (one_more k settings new (Named name) f) [
        | inl old' ↦ let free = a.fresh name this.1 in let used = taken settings k name old' in absurd (cc)
        | inr this' ↦ sym this.0 ∙ this'.0
      ]
    ]

no_ok : (fault : WordFault) (all : List Setting) → Err fault ≡ Ok all → ⊥
no_ok fault all e = cc

same_ok : (r : Result (List Setting) WordFault) (some all : List Setting) → r ≡ Ok some → r ≡ Ok all → some ≡ all
same_ok r some all is e = cc

words_more : (rows : List Row) (i : ℕ) (settings all : List Setting) (words : List (List ℕ)) → AreSettings rows settings → settings_of rows i settings words ≡ Ok all → AreSettings rows all
words_more rows i settings all [] s e = subst (AreSettings rows) (same_ok (Ok settings) settings all refl e) s
words_more rows i settings all (word ∷ words) s e = tried (setting_of rows i settings word) refl e (λ new. words_more rows (i + 1) (settings ++ new ∷ []) all words)
  where
    tried : (r : Result Setting WordFault) → setting_of rows i settings word ≡ r → and_then (λ (new : Setting). settings_of rows (i + 1) (settings ++ new ∷ []) words) r ≡ Ok all
        → ((new : Setting) → AreSettings rows (settings ++ new ∷ []) → settings_of rows (i + 1) (settings ++ new ∷ []) words ≡ Ok all → AreSettings rows all) → AreSettings rows all
    tried (Err fault) was rest later = absurd (no_ok fault all rest)
    tried (Ok new) was rest later = later new (word_more rows settings new (accepted rows i settings word new was) s) rest

pub settings_of_words : (rows : List Row) (words : List (List ℕ)) (all : List Setting) → settings_of rows 2 [] words ≡ Ok all → AreSettings rows all
settings_of_words rows words all e = words_more rows 2 [] all words (nothing_set rows) e

-- a call that gave a setting gave that of the definition
pub no_fault : (r : Result Setting WordFault) (new : Setting) → (Ok new ≡ r) ⊎ IsErrOf {T = Setting} (Ok new) NoMemory → r ≡ Ok new
no_fault r new (inl is) = sym is
no_fault r new (inr fault) = absurd (cc)
