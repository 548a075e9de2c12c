-- Files have one answer at most: they stand for one list of samples, or they are refused for one fault.
use Rattle.std.proofs.Common.{◌≡◌, ℕ, zero, suc, ◌+◌, ◌<◌, ◌≤◌, ◌⊎◌, inl, inr, ◌++◌, List, [], ◌∷◌, take, refl, sym, ap, ◌∙◌, subst, arith, true}
use Rattle.std.specs.Prelude.{slice_get, Some}
use Rattle.limits.specs.declared.bounds.TheConstants.{MOST_SAMPLE_CELLS}
use Rattle.cells.specs.declared.place.Size.{Size}
use Rattle.cells.specs.Places.{cell_count}
use Rattle.cells.specs.Cells.{Cells, count_of}
use Rattle.cells.specs.PartLists.{parts_of}
use Rattle.shelf_traits.specs.declared.fault.What.TheVariants.{Cells as CellsLimit}
use Rattle.synth_report.specs.declared.fault.FileOf.TheVariants as part
use Rattle.synth_report.specs.declared.fault.Fault.{Fault}
use Rattle.synth_report.specs.declared.fault.Fault.TheVariants.{Limit}
use Rattle.command.specs.Faults.{fault_of_read}
use Rattle.sample_files.specs.declared.form.Form.{Form}
use Rattle.sample_files.specs.declared.sample.Sample.{Sample}
use Rattle.sample_files.specs.declared.several.Asked.{Asked}
use Rattle.sample_files.specs.declared.several.Samples.{Samples}
use Rattle.sample_files.specs.Samples.{StandsIn, can_turn, goes_with}
use Rattle.sample_files.specs.Several.{GoesAfter, GoesWith, IsRefusedFurther, NoneRefusedOf, RefusesNext, RefusesSeveral, StandAlike, StandForParts, StandForSeveral, StandsAlike, with_turns}
use Rattle.sample_files.proofs.OneSample.{alone_in, count_alone, one_refusal_in, one_sample_in, stands_or_refused_in}
use Rattle.sample_files.proofs.Turning.{first_once, unrefused_first, with_turns-mono}
use Rattle.sample_files.proofs.Joined.{count_of_parts, first_part_size, parts_count, parts_count-append, same_parts}

-- the same forms and sizes go together
goes_same : (asked : Asked) (f g o q : Form) (s t u v : Size) → f ≡ g → s ≡ t → o ≡ q → u ≡ v → GoesWith asked f s o u → GoesWith asked g t q v
goes_same asked f g o q s t u v forms sizes owns its goes = record {
  alike = ap (λ x. goes_with x q) (sym forms) ∙ ap (goes_with f) (sym owns) ∙ goes.alike;
  sized = λ on. sym its ∙ goes.sized on ∙ sizes;
}

-- They stand for one list of parts.

alike_once : (asked : Asked) (form : Form) (size : Size) (files : List (List ℕ)) (xs ys : List Cells) → StandAlike asked form size files xs → StandAlike asked form size files ys → xs ≡ ys
alike_once asked form size [] [] [] a b = refl
alike_once asked form size [] [] (y ∷ ys) a b = absurd b
alike_once asked form size [] (x ∷ xs) ys a b = absurd a
alike_once asked form size (bytes ∷ files) [] ys a b = absurd a
alike_once asked form size (bytes ∷ files) (x ∷ xs) [] a b = absurd b
alike_once asked form size (bytes ∷ files) (x ∷ xs) (y ∷ ys) a b =
    let same = one_sample_in asked.pictures bytes a.0.own b.0.own x y a.0.stands b.0.stands in
    ap (λ z. z ∷ xs) same.cells_are ∙ ap (λ zs. y ∷ zs) (alike_once asked form size files xs ys a.1 b.1)

record SameParts (form other : Form) (xs ys : List Cells) : Type 0 where
  form_is : form ≡ other
  parts_are : xs ≡ ys

parts_once : (asked : Asked) (form other : Form) (first : List ℕ) (more : List (List ℕ)) (xs ys : List Cells) → StandForParts asked form first more xs → StandForParts asked other first more ys → SameParts form other xs ys
parts_once asked form other first more [] ys a b = absurd a
parts_once asked form other first more (x ∷ xs) [] a b = absurd b
parts_once asked form other first more (x ∷ xs) (y ∷ ys) a b =
    let same = one_sample_in asked.pictures first form other x y a.0 b.0 in
    record {
      form_is = same.form_is;
      parts_are = ap (λ z. z ∷ xs) same.cells_are
          ∙ ap (λ zs. y ∷ zs) (alike_once asked form x.size more xs ys a.1
          (subst (λ f. StandAlike asked f x.size more ys) (sym same.form_is) (subst (λ (v : Cells). StandAlike asked other v.size more ys) (sym same.cells_are) b.1)));
    }

pub one_value : (asked : Asked) (first : List ℕ) (more : List (List ℕ)) (one other : Samples) → StandForSeveral asked first more one → StandForSeveral asked first more other → one ≡ other
one_value asked first more one other a b =
    let same = parts_once asked one.form other.form first more (parts_of one.volume) (parts_of other.volume) a.parts b.parts in
    ap (λ f. record one { form = f }) same.form_is ∙ ap (λ v. record other { volume = v }) (same_parts one.volume other.volume same.parts_are)

-- The samples before a further one, and itself.

record IsSplit (asked : Asked) (form : Form) (size : Size) (files : List (List ℕ)) (turn : ℕ) (bytes : List ℕ) (parts : List Cells) : Type 0 where
  before : List Cells
  own : Cells
  after : List Cells
  is : parts ≡ before ++ (own ∷ after)
  front : StandAlike asked form size (take turn files) before
  its : StandsAlike asked form size bytes own

split_at : (asked : Asked) (form : Form) (size : Size) (files : List (List ℕ)) (turn : ℕ) (bytes : List ℕ) (parts : List Cells) → StandAlike asked form size files parts → slice_get files turn ≡ Some bytes → IsSplit asked form size files turn bytes parts
split_at asked form size [] turn bytes parts a here = absurd (cc)
split_at asked form size (file ∷ files) turn bytes [] a here = absurd a
split_at asked form size (file ∷ files) zero bytes (p ∷ parts) a here =
    let is : file ≡ bytes = cc in
    record { before = []; own = p; after = parts; is = refl; front = tt; its = subst (λ b. StandsAlike asked form size b p) is a.0 }
split_at asked form size (file ∷ files) (suc turn) bytes (p ∷ parts) a here =
    let rest = split_at asked form size files turn bytes parts a.1 here in
    record { before = p ∷ rest.before; own = rest.own; after = rest.after; is = ap (λ ps. p ∷ ps) rest.is; front = (a.0, rest.front); its = rest.its }

-- Files that stand for samples aren't refused.

module _ (asked : Asked) (first : List ℕ) (more : List (List ℕ)) (form : Form) where
  by_next : (before : Samples) (number turn : ℕ) (bytes : List ℕ) (fault : Fault) (p : Cells) (parts : List Cells) → StandsIn asked.pictures first form p → (s : IsSplit asked form p.size more turn bytes parts)
      → StandForSeveral asked first (take turn more) before → with_turns asked.turns (parts_count (p ∷ parts)) ≤ MOST_SAMPLE_CELLS → RefusesNext asked before number bytes fault → ⊥
  by_next before number turn bytes fault p parts stands s stand fits (inl reader) = stands_or_refused_in asked.pictures bytes s.its.own s.own reader.0 s.its.stands reader.1
  by_next before number turn bytes fault p parts stands s stand fits (inr (inl unlike)) =
      let same = parts_once asked form before.form first (take turn more) (p ∷ s.before) (parts_of before.volume) (stands, s.front) stand.parts in
      let own = one_sample_in asked.pictures bytes s.its.own unlike.sample.form s.own unlike.sample.volume s.its.stands unlike.read in
      unlike.unlike (goes_same asked form before.form s.its.own unlike.sample.form p.size before.volume.size s.own.size unlike.sample.volume.size same.form_is
      (first_part_size before.volume p s.before same.parts_are) own.form_is (ap (λ (v : Cells). v.size) own.cells_are) s.its.goes)
  by_next before number turn bytes fault p parts stands s stand fits (inr (inr cells)) =
      let same = parts_once asked form before.form first (take turn more) (p ∷ s.before) (parts_of before.volume) (stands, s.front) stand.parts in
      let own = one_sample_in asked.pictures bytes s.its.own cells.sample.form s.own cells.sample.volume s.its.stands cells.read in
      let so_far : count_of before.volume ≡ cell_count p.size + parts_count s.before = count_of_parts before.volume ∙ ap parts_count (sym same.parts_are) in
      let its : count_of cells.sample.volume ≡ cell_count s.own.size = ap count_of (sym own.cells_are) ∙ count_alone s.own (alone_in asked.pictures bytes s.its.own s.own s.its.stands) in
      let all : parts_count parts ≡ parts_count s.before + (cell_count s.own.size + parts_count s.after) = ap parts_count s.is ∙ parts_count-append s.before (s.own ∷ s.after) in
      let some : count_of before.volume + count_of cells.sample.volume ≤ parts_count (p ∷ parts) = omega (arith, so_far, its, all) in
      let less = with_turns-mono asked.turns (count_of before.volume + count_of cells.sample.volume) (parts_count (p ∷ parts)) some in
      omega (arith, less, fits, cells.passes.0)

  by_parts : (n : ℕ) (fault : Fault) (parts : List Cells) → StandForParts asked form first more parts → (asked.turns ≡ true → can_turn form ≡ true) → with_turns asked.turns (parts_count parts) ≤ MOST_SAMPLE_CELLS
      → RefusesSeveral asked n first more fault → ⊥
  by_parts n fault [] stand pixels fits refused = absurd stand
  by_parts n fault (p ∷ parts) stand pixels fits (inl (one, refused)) =
      let some : count_of p ≤ parts_count (p ∷ parts) = let alone = count_alone p (alone_in asked.pictures first form p stand.0) in omega (arith, alone) in
      let less = with_turns-mono asked.turns (count_of p) (parts_count (p ∷ parts)) some in
      unrefused_first asked first fault form p stand.0 pixels (omega (arith, less, fits)) refused
  by_parts n fault (p ∷ parts) stand pixels fits (inr r) =
      by_next r.before n r.turn r.bytes fault p parts stand.0 (split_at asked form p.size more r.turn r.bytes parts stand.1 r.its) r.stand fits r.refused

pub not_both : (asked : Asked) (first : List ℕ) (more : List (List ℕ)) (samples : Samples) (n : ℕ) (fault : Fault) → StandForSeveral asked first more samples → RefusesSeveral asked n first more fault → ⊥
not_both asked first more samples n fault a refused =
    by_parts asked first more samples.form n fault (parts_of samples.volume) a.parts a.pixels (subst (λ c. with_turns asked.turns c ≤ MOST_SAMPLE_CELLS) (count_of_parts samples.volume) a.fits) refused

-- Nothing is refused of the samples before one that comes after samples.

take_again : {X : Type 0} (xs : List X) (t i : ℕ) → t < i → take t (take i xs) ≡ take t xs
take_again [] zero i lt = refl
take_again [] (suc t) zero lt = absurd (omega arith)
take_again [] (suc t) (suc i) lt = refl
take_again (x ∷ xs) t zero lt = absurd (omega arith)
take_again (x ∷ xs) zero (suc i) lt = refl
take_again (x ∷ xs) (suc t) (suc i) lt = ap (λ ys. x ∷ ys) (take_again xs t i (omega arith))

get_in_front : {X : Type 0} (xs : List X) (t i : ℕ) (x : X) → t < i → slice_get xs t ≡ Some x → slice_get (take i xs) t ≡ Some x
get_in_front [] t i x lt is = absurd (cc)
get_in_front (y ∷ xs) t zero x lt is = absurd (omega arith)
get_in_front (y ∷ xs) zero (suc i) x lt is = is
get_in_front (y ∷ xs) (suc t) (suc i) x lt is = get_in_front xs t i x (omega arith) is

-- a refusal of the samples up to a turn is one of those alone
pub refused_in_front : (asked : Asked) (first : List ℕ) (more : List (List ℕ)) (i m : ℕ) (fault : Fault) → m ≤ i + 1 → RefusesSeveral asked m first more fault → RefusesSeveral asked m first (take i more) fault
refused_in_front asked first more i m fault le (inl r) = inl r
refused_in_front asked first more i m fault le (inr r) = let lt : r.turn < i = omega (arith, r.number_is) in inr (record {
  turn = r.turn;
  number_is = r.number_is;
  bytes = r.bytes;
  its = get_in_front more r.turn i r.bytes lt r.its;
  before = r.before;
  stand = subst (λ xs. StandForSeveral asked first xs r.before) (sym (take_again more r.turn i lt)) r.stand;
  refused = r.refused;
})

pub none_refused : (asked : Asked) (first : List ℕ) (more : List (List ℕ)) (i : ℕ) (samples : Samples) → StandForSeveral asked first (take i more) samples → NoneRefusedOf asked (i + 1) first more
none_refused asked first more i samples a = λ m fault le refused. not_both asked first (take i more) samples m fault a (refused_in_front asked first more i m fault le refused)

pub none_at_first : (asked : Asked) (first : List ℕ) (more : List (List ℕ)) → NoneRefusedOf asked 0 first more
none_at_first asked first more = by
  where
    by : (m : ℕ) (fault : Fault) → m ≤ 0 → RefusesSeveral asked m first more fault → ⊥
    by m fault le (inl r) = let one = r.0 in omega arith
    by m fault le (inr r) = omega (arith, r.number_is)

-- One refusal.

module _ (asked : Asked) (before : Samples) (number : ℕ) (bytes : List ℕ) (one other : Fault) where
  -- the sample of the bytes goes with those before it whichever reading says so
  goes_again : (sample again : Sample) → StandsIn asked.pictures bytes sample.form sample.volume → StandsIn asked.pictures bytes again.form again.volume → GoesAfter asked before sample → GoesAfter asked before again
  goes_again sample again a b goes =
      let same = one_sample_in asked.pictures bytes sample.form again.form sample.volume again.volume a b in
      let size = before.volume.size in
      goes_same asked before.form before.form sample.form again.form size size sample.volume.size again.volume.size refl refl same.form_is (ap (λ (v : Cells). v.size) same.cells_are) goes

  next_once : RefusesNext asked before number bytes one → RefusesNext asked before number bytes other → one ≡ other
  next_once (inl a) (inl b) = a.2 ∙ ap (fault_of_read (part.More number)) (one_refusal_in asked.pictures bytes a.0 b.0 a.1 b.1) ∙ sym b.2
  next_once (inl a) (inr (inl b)) = absurd (stands_or_refused_in asked.pictures bytes b.sample.form b.sample.volume a.0 b.read a.1)
  next_once (inl a) (inr (inr b)) = absurd (stands_or_refused_in asked.pictures bytes b.sample.form b.sample.volume a.0 b.read a.1)
  next_once (inr (inl a)) (inl b) = absurd (stands_or_refused_in asked.pictures bytes a.sample.form a.sample.volume b.0 a.read b.1)
  next_once (inr (inr a)) (inl b) = absurd (stands_or_refused_in asked.pictures bytes a.sample.form a.sample.volume b.0 a.read b.1)
  next_once (inr (inl a)) (inr (inl b)) = a.is ∙ sym b.is
  next_once (inr (inl a)) (inr (inr b)) = absurd (a.unlike (goes_again b.sample a.sample b.read a.read b.goes))
  next_once (inr (inr a)) (inr (inl b)) = absurd (b.unlike (goes_again a.sample b.sample a.read b.read a.goes))
  next_once (inr (inr a)) (inr (inr b)) =
      let same = one_sample_in asked.pictures bytes a.sample.form b.sample.form a.sample.volume b.sample.volume a.read b.read in
      a.passes.1 ∙ ap (λ (v : Cells). Limit CellsLimit (with_turns asked.turns (count_of before.volume + count_of v)) MOST_SAMPLE_CELLS) same.cells_are ∙ sym b.passes.1

module _ (asked : Asked) (first : List ℕ) (more : List (List ℕ)) (m n : ℕ) (one other : Fault) where
  same_turn : (a : IsRefusedFurther asked m first more one) (b : IsRefusedFurther asked n first more other) → a.turn ≡ b.turn → one ≡ other
  same_turn a b same =
      let bytes : a.bytes ≡ b.bytes = let here = a.its in let there = b.its in let both = ap (slice_get more) same in cc in
      let samples : a.before ≡ b.before = one_value asked first (take b.turn more) a.before b.before (subst (λ t. StandForSeveral asked first (take t more) a.before) same a.stand) b.stand in
      let number : m ≡ n = omega (arith, a.number_is, b.number_is, same) in
      next_once asked b.before n b.bytes one other
      (subst (λ s. RefusesNext asked s n b.bytes one) samples (subst (λ x. RefusesNext asked a.before x b.bytes one) number (subst (λ x. RefusesNext asked a.before m x one) bytes a.refused))) b.refused

  -- a refusal of the first has no sample, and one of a further sample none before it
  earlier : (i j : ℕ) (f g : Fault) → RefusesSeveral asked i first more f → (b : IsRefusedFurther asked j first more g) → i < j → ⊥
  earlier i j f g a b lt = none_refused asked first more b.turn b.before b.stand i f (omega (arith, b.number_is)) a

  further_once : (a : IsRefusedFurther asked m first more one) (b : IsRefusedFurther asked n first more other) → (m < n) ⊎ ((m ≡ n) ⊎ (n < m)) → one ≡ other
  further_once a b (inl lt) = absurd (earlier m n one other (inr a) b lt)
  further_once a b (inr (inl same)) = same_turn a b (omega (arith, a.number_is, b.number_is, same))
  further_once a b (inr (inr lt)) = absurd (earlier n m other one (inr b) a lt)

  pub refused_once : RefusesSeveral asked m first more one → RefusesSeveral asked n first more other → one ≡ other
  refused_once (inl a) (inl b) = first_once asked first one other a.1 b.1
  refused_once (inl a) (inr b) = let is = a.0 in absurd (earlier m n one other (inl a) b (omega (arith, b.number_is)))
  refused_once (inr a) (inl b) = let is = b.0 in absurd (earlier n m other one (inl b) a (omega (arith, a.number_is)))
  refused_once (inr a) (inr b) = further_once a b (three m n)
    where
      three : (x y : ℕ) → (x < y) ⊎ ((x ≡ y) ⊎ (y < x))
      three zero zero = inr (inl refl)
      three zero (suc y) = inl (omega arith)
      three (suc x) zero = inr (inr (omega arith))
      three (suc x) (suc y) = elim (three x y) [ inl lt ↦ inl (omega arith) | inr r ↦ elim r [ inl e ↦ inr (inl (ap suc e)) | inr gt ↦ inr (inr (omega arith)) ] ]
