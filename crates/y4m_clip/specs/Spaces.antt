-- A reader has to trust this file. The colour kinds of clips: their spellings, and which bytes of a
-- frame's planes make a cell. (YUV4MPEG2.)
use Rattle.std.specs.Prelude.{◌≡◌, ◌⊎◌, ◌+◌, ◌*◌, ℕ, zero, suc, List, [], ◌∷◌, ◌++◌, Option, Some, None, slice_index, codes}
use Rattle.y4m_clip.specs.declared.form.SpaceKind.{SpaceKind}
use Rattle.y4m_clip.specs.declared.form.SpaceKind.TheVariants.{Mono, C444, C422, C411, C420}

-- the values of the tag C
abbrev pub IsSpelling : SpaceKind → List ℕ → Type 0
IsSpelling Mono value = value ≡ codes "mono"
IsSpelling C444 value = value ≡ codes "444"
IsSpelling C422 value = value ≡ codes "422"
IsSpelling C411 value = value ≡ codes "411"
IsSpelling C420 value =
    (value ≡ codes "420jpeg") ⊎ (value ≡ codes "420mpeg2") ⊎ (value ≡ codes "420paldv")
    ⊎ (value ≡ codes "420")

-- the kind that the tag C gives; where it is missing, 420
abbrev pub GivesSpace : Option (List ℕ) → SpaceKind → Type 0
GivesSpace None kind = kind ≡ C420
GivesSpace (Some value) kind = IsSpelling kind value

-- the interlacing that the tag I gives is read: progressive, top or bottom field first, or unknown
abbrev pub GivesInterlace : Option (List ℕ) → Type 0
GivesInterlace None = Unit {0}
GivesInterlace (Some value) =
    (value ≡ codes "p") ⊎ (value ≡ codes "t") ⊎ (value ≡ codes "b") ⊎ (value ≡ codes "?")

-- a cell's width and height in pixels
abbrev pub cell_width : SpaceKind → ℕ
cell_width Mono = 1
cell_width C444 = 1
cell_width C422 = 2
cell_width C411 = 4
cell_width C420 = 2

abbrev pub cell_height : SpaceKind → ℕ
cell_height Mono = 1
cell_height C444 = 1
cell_height C422 = 1
cell_height C411 = 1
cell_height C420 = 2

-- the samples of a cell: one for each pixel, and two of chroma unless it is mono
abbrev pub samples_of : SpaceKind → ℕ
samples_of Mono = 1
samples_of C444 = 3
samples_of C422 = 4
samples_of C411 = 6
samples_of C420 = 6

-- the lists that a function gives for 0, 1, .., n - 1, one after another
abbrev pub joined_to : ℕ → (ℕ → List ℕ) → List ℕ
joined_to zero part = []
joined_to (suc n) part = joined_to n part ++ part n

-- the bytes of a cell, from two rows of luma and the rows of both chroma planes: the luma of its
-- pixels row by row, then Cb, then Cr
abbrev pub cell_bytes : SpaceKind → List ℕ → List ℕ → List ℕ → List ℕ → ℕ → List ℕ
cell_bytes Mono upper lower blue red x = slice_index upper x ∷ []
cell_bytes C444 upper lower blue red x =
    slice_index upper x ∷ slice_index blue x ∷ slice_index red x ∷ []
cell_bytes C422 upper lower blue red x =
    slice_index upper (2 * x) ∷ slice_index upper (2 * x + 1)
    ∷ slice_index blue x ∷ slice_index red x ∷ []
cell_bytes C411 upper lower blue red x =
    slice_index upper (4 * x) ∷ slice_index upper (4 * x + 1) ∷ slice_index upper (4 * x + 2)
    ∷ slice_index upper (4 * x + 3) ∷ slice_index blue x ∷ slice_index red x ∷ []
cell_bytes C420 upper lower blue red x =
    slice_index upper (2 * x) ∷ slice_index upper (2 * x + 1)
    ∷ slice_index lower (2 * x) ∷ slice_index lower (2 * x + 1)
    ∷ slice_index blue x ∷ slice_index red x ∷ []
