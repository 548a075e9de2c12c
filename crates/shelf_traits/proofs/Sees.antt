-- What several reads see of the files, which none of them changes.
use Rattle.std.proofs.Common.{◌≡◌, ℕ, List, subst}
use Rattle.shelf_traits.specs.Files.{Files, ShelfState, OnlyReads, Changes, Rose}
use Rattle.shelf_traits.proofs.FileLaws.{told_then, told_weaker, told_both, rose_later}

-- it holds of the files at the entry
abbrev pub Sees : ShelfState → ShelfState → (Files → Type 0) → Type 0
Sees was now P = Changes was now (λ before after. P before)

pub sees_weaker : (P Q : Files → Type 0) (a b : ShelfState) → ((files : Files) → P files → Q files) → Sees a b P → Sees a b Q
sees_weaker P Q a b weaker seen = told_weaker (λ x y. P x) (λ x y. Q x) a.files b.files (λ x y. weaker x) seen

-- seen at the same time
pub sees_both : (P Q R : Files → Type 0) (a b : ShelfState) → ((files : Files) → P files → Q files → R files) → Sees a b P → Sees a b Q → Sees a b R
sees_both P Q R a b join p q = told_weaker (λ x y. P x × Q x) (λ x y. R x) a.files b.files (λ x y both. join x both.0 both.1) (told_both (λ x y. P x) (λ x y. Q x) a.files b.files p q)

-- seen in a later read
pub sees_later : {names : List (List ℕ)} (P : Files → Type 0) (a b c : ShelfState) → OnlyReads names a b → Sees b c P → Sees a c P
sees_later P a b c reads seen = told_then (λ x y. y ≡ x) (λ x y. P x) (λ x y. P x) a.files b.files c.files (λ x y z same p. subst P same p) reads.files seen

-- and in an earlier one
pub sees_earlier : {names : List (List ℕ)} (P : Files → Type 0) (a b c : ShelfState) → Sees a b P → OnlyReads names b c → Sees a c P
sees_earlier P a b c seen reads = told_then (λ x y. P x) (λ x y. y ≡ x) (λ x y. P x) a.files b.files c.files (λ x y z p same. p) seen reads.files

-- seen in two reads in a row
pub sees_then : {names later : List (List ℕ)} (P Q R : Files → Type 0) (a b c : ShelfState) → ((files : Files) → P files → Q files → R files) → OnlyReads names a b → OnlyReads later b c → Sees a b P → Sees b c Q → Sees a c R
sees_then P Q R a b c join first second p q = sees_both P Q R a c join (sees_earlier P a b c p second) (sees_later Q a b c first q)

-- nothing but that the files are known is needed
pub sees_all : {names : List (List ℕ)} (P : Files → Type 0) (a b : ShelfState) → ((files : Files) → P files) → OnlyReads names a b → Sees a b P
sees_all P a b holds reads = told_weaker (λ x y. y ≡ x) (λ x y. P x) a.files b.files (λ x y same. holds x) reads.files

-- a read fault in a later read
pub fault_later : {names : List (List ℕ)} (name : List ℕ) (a b c : ShelfState) → OnlyReads names a b → Rose (b.reads name) (c.reads name) → Rose (a.reads name) (c.reads name)
fault_later name a b c reads rose = rose_later (a.reads name) (b.reads name) (c.reads name) (reads.reads name) rose
