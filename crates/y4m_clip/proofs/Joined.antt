-- Laws of the lists that a function gives, one after another.
use Rattle.std.proofs.Common.{◌≡◌, ℕ, zero, suc, ◌+◌, ◌*◌, List, ◌++◌, length, refl, sym, ap, ◌∙◌, arith, append_assoc}
use Rattle.std.proofs.lemmas.List.{length-append}
use Rattle.y4m_clip.specs.declared.form.SpaceKind.{SpaceKind}
use Rattle.y4m_clip.specs.declared.form.SpaceKind.TheVariants.{Mono, C444, C422, C411, C420}
use Rattle.y4m_clip.specs.Spaces.{joined_to, samples_of, cell_bytes}
use Rattle.y4m_clip.specs.Clips.{frame_row, frame_cells}

-- one list more
pub joined_step : (old before after : List ℕ) (n : ℕ) (part : ℕ → List ℕ) → before ≡ old ++ joined_to n part → after ≡ before ++ part n → after ≡ old ++ joined_to (n + 1) part
joined_step old before after n part so_far step =
    let one : n + 1 ≡ suc n = omega arith in
    step ∙ ap (λ t. t ++ part n) so_far ∙ append_assoc old (joined_to n part) (part n) ∙ ap (λ m. old ++ joined_to m part) (sym one)

-- lists of one length
pub length-joined : (n k : ℕ) (part : ℕ → List ℕ) → ((i : ℕ) → length (part i) ≡ k) → length (joined_to n part) ≡ k * n
length-joined zero k part each = omega arith
length-joined (suc n) k part each =
    let more : k * suc n ≡ k * n + k = grind arith in
    omega (arith, length-append (joined_to n part) (part n), each n, length-joined n k part each, more)

length-cell : (kind : SpaceKind) (upper lower blue red : List ℕ) (x : ℕ) → length (cell_bytes kind upper lower blue red x) ≡ samples_of kind
length-cell Mono upper lower blue red x = refl
length-cell C444 upper lower blue red x = refl
length-cell C422 upper lower blue red x = refl
length-cell C411 upper lower blue red x = refl
length-cell C420 upper lower blue red x = refl

pub length-frame_cells : (kind : SpaceKind) (w h : ℕ) (planes : List ℕ) → length (frame_cells kind w h planes) ≡ samples_of kind * w * h
length-frame_cells kind w h planes = length-joined h (samples_of kind * w) (frame_row kind w h planes) (λ y. length-joined w (samples_of kind) _ (length-cell kind _ _ _ _))
