-- Bytes stand for one clip at most.
use Rattle.std.proofs.Common.{◌≡◌, ◌≢◌, ℕ, ◌≤◌, ◌<◌, inl, inr, List, [], ◌∷◌, ◌++◌, length, take, drop, get_or, refl, sym, ap, ◌∙◌, subst, arith, ⊎_elim, append_assoc}
use Rattle.std.specs.Prelude.{Option, Some, None, ◌==◌, if◌then◌else◌, codes}
use Rattle.std.specs.List.{AllByRecursion, flat_map}
use Rattle.std.proofs.lemmas.Bool.{cases_lt}
use Rattle.std.proofs.lemmas.List.{length-append, append-nil, take-append-drop, take-append-le}
use Rattle.std.proofs.Math.Seq.{take-append_seam, drop-append_seam}
use Rattle.cells.specs.Cells.{volume_of}
use Rattle.y4m_clip.specs.declared.form.SpaceKind.{SpaceKind}
use Rattle.y4m_clip.specs.declared.form.SpaceKind.TheVariants.{Mono, C444, C422, C411, C420}
use Rattle.y4m_clip.specs.declared.form.Clip.{Clip}
use Rattle.y4m_clip.specs.StreamLine.{IsStreamLine}
use Rattle.y4m_clip.specs.Spaces.{IsSpelling, GivesSpace, samples_of}
use Rattle.y4m_clip.specs.Clips.{tag_value, carried, Lined, cells_w, cells_h, IsFrameLine, Frame, IsFrame, frame_text, frames_text, frame_cells, IsClipOf}
use Rattle.y4m_clip.specs.Reading.{gathered}
use Rattle.y4m_clip.proofs.FileLines.{no_longer}
use Rattle.y4m_clip.proofs.Words.{tags_gathered}

-- One stream line.

shorter_line : (a b x y : List ℕ) (tags tags' : List (List ℕ)) → length a ≤ length b → IsStreamLine a tags → IsStreamLine b tags' → a ++ x ≡ b ++ y → a ≡ b
shorter_line a b x y tags tags' le first second joins =
    let front : take (length a) b ≡ a = sym (take-append-le (length a) b y le) ∙ ap (take (length a)) (sym joins) ∙ take-append_seam a x in
    let split : a ++ drop (length a) b ≡ b = ap (λ t. t ++ drop (length a) b) (sym front) ∙ take-append-drop (length a) b in
    let none : drop (length a) b ≡ [] = no_longer a (drop (length a) b) tags tags' first (subst (λ t. IsStreamLine t tags') (sym split) second) in
    sym (append-nil a) ∙ ap (λ t. a ++ t) (sym none) ∙ split

pub same_line : (a b x y : List ℕ) (tags tags' : List (List ℕ)) → IsStreamLine a tags → IsStreamLine b tags' → a ++ x ≡ b ++ y → a ≡ b
same_line a b x y tags tags' first second joins =
    ⊎_elim (λ less. shorter_line a b x y tags tags' (omega arith) first second joins) (λ more. sym (shorter_line b a y x tags' tags more second first (sym joins))) (cases_lt (length a) (length b))

pub same_tags : (a b : List ℕ) (tags tags' : List (List ℕ)) → IsStreamLine a tags → IsStreamLine b tags' → a ≡ b → tags ≡ tags'
same_tags a b tags tags' first second same =
    let rest : first.rest ≡ second.rest = ap (drop 9) (sym first.is ∙ same ∙ second.is) in
    sym (tags_gathered [] tags first.rest first.continues) ∙ ap (λ t. gathered [] t) rest ∙ tags_gathered [] tags' second.rest second.continues

pub record SameLined {bytes : List ℕ} (a b : Lined bytes) : Type 0 where
  pub line : a.line ≡ b.line
  pub rest : a.rest ≡ b.rest
  pub tags : a.tags ≡ b.tags

pub one_lined : {bytes : List ℕ} (a b : Lined bytes) → SameLined a b
one_lined {bytes} a b =
    let line = same_line a.line b.line a.rest b.rest a.tags b.tags a.is_line b.is_line (sym a.is ∙ b.is) in
    record {
      line = line;
      rest = sym (drop-append_seam a.line a.rest) ∙ (λ i. drop (length (line i)) ((sym a.is ∙ b.is) i)) ∙ drop-append_seam b.line b.rest;
      tags = same_tags a.line b.line a.tags b.tags a.is_line b.is_line line;
    }

-- One colour kind: the third byte of a spelling tells it.

abbrev kind_by : ℕ → SpaceKind
kind_by b = if b == 110 then Mono else if b == 52 then C444 else if b == 50 then C422 else if b == 49 then C411 else C420

spelled : (kind : SpaceKind) (value : List ℕ) → IsSpelling kind value → kind_by (get_or value 2 0) ≡ kind
spelled Mono value is = ap (λ v. kind_by (get_or v 2 0)) is
spelled C444 value is = ap (λ v. kind_by (get_or v 2 0)) is
spelled C422 value is = ap (λ v. kind_by (get_or v 2 0)) is
spelled C411 value is = ap (λ v. kind_by (get_or v 2 0)) is
spelled C420 value (inl is) = ap (λ v. kind_by (get_or v 2 0)) is
spelled C420 value (inr (inl is)) = ap (λ v. kind_by (get_or v 2 0)) is
spelled C420 value (inr (inr (inl is))) = ap (λ v. kind_by (get_or v 2 0)) is
spelled C420 value (inr (inr (inr is))) = ap (λ v. kind_by (get_or v 2 0)) is

pub one_kind : (value : Option (List ℕ)) (a b : SpaceKind) → GivesSpace value a → GivesSpace value b → a ≡ b
one_kind None a b first second = first ∙ sym second
one_kind (Some value) a b first second = sym (spelled a value first) ∙ spelled b value second

-- One list of frames.

same_words : (u v x y : List ℕ) → AllByRecursion (λ b. b ≢ 10) u → AllByRecursion (λ b. b ≢ 10) v → u ++ 10 ∷ x ≡ v ++ 10 ∷ y → u ≡ v
same_words [] [] x y first second joins = refl
same_words [] (b ∷ v) x y first second joins = let e : 10 ≡ b = cc in absurd (second.0 (sym e))
same_words (b ∷ u) [] x y first second joins = let e : b ≡ 10 = cc in absurd (first.0 e)
same_words (b ∷ u) (c ∷ v) x y first second joins =
    let head : b ≡ c = cc in
    let tail : u ++ 10 ∷ x ≡ v ++ 10 ∷ y = cc in
    (λ i. head i ∷ same_words u v x y first.1 second.1 tail i)

spaced_line : (words x : List ℕ) → (codes "FRAME " ++ words ++ 10 ∷ []) ++ x ≡ codes "FRAME " ++ (words ++ 10 ∷ x)
spaced_line words x = append_assoc (codes "FRAME " ++ words) (10 ∷ []) x ∙ append_assoc (codes "FRAME ") words (10 ∷ x)

-- a line with words is none without
not_alone : (x t : List ℕ) → codes "FRAME\n" ++ x ≡ codes "FRAME " ++ t → ⊥
not_alone x t joins = apart 10 32 (omega arith) (ap (λ (l : List ℕ). get_or l 5 0) joins)
  where
    apart : (m n : ℕ) → m < n → m ≡ n → ⊥
    apart m n less same = omega arith

alone_and_words : (a b x y words : List ℕ) → a ≡ codes "FRAME\n" → b ≡ codes "FRAME " ++ words ++ 10 ∷ [] → a ++ x ≡ b ++ y → ⊥
alone_and_words a b x y words first second joins =
    not_alone x (words ++ 10 ∷ y) (ap (λ t. t ++ x) (sym first) ∙ joins ∙ ap (λ t. t ++ y) second ∙ spaced_line words y)

both_words : (a b x y u v : List ℕ) → AllByRecursion (λ b. b ≢ 10) u → AllByRecursion (λ b. b ≢ 10) v → a ≡ codes "FRAME " ++ u ++ 10 ∷ [] → b ≡ codes "FRAME " ++ v ++ 10 ∷ [] → a ++ x ≡ b ++ y → u ≡ v
both_words a b x y u v all all' first second joins =
    same_words u v x y all all'
    (ap (drop 6) (sym (spaced_line u x) ∙ ap (λ t. t ++ x) (sym first) ∙ joins ∙ ap (λ t. t ++ y) second ∙ spaced_line v y))

pub same_frame_line : (a b x y : List ℕ) → IsFrameLine a → IsFrameLine b → a ++ x ≡ b ++ y → a ≡ b
same_frame_line a b x y (inl first) (inl second) joins = first ∙ sym second
same_frame_line a b x y (inl first) (inr second) joins = absurd (alone_and_words a b x y second.0 first second.2 joins)
same_frame_line a b x y (inr first) (inl second) joins = absurd (alone_and_words b a y x first.0 second first.2 (sym joins))
same_frame_line a b x y (inr first) (inr second) joins =
    first.2 ∙ ap (λ w. codes "FRAME " ++ w ++ 10 ∷ []) (both_words a b x y first.0 second.0 first.1 second.1 first.2 second.2 joins) ∙ sym second.2

pub some_line : (line : List ℕ) → IsFrameLine line → 1 ≤ length line
some_line line (inl is) = omega (arith, ap length is)
some_line line (inr is) = omega (arith, ap length is.2, length-append (codes "FRAME " ++ is.0) (10 ∷ []))

pub no_frame : (kind : SpaceKind) (w h : ℕ) (frame : Frame) (rest : List ℕ) → IsFrame kind w h frame → [] ≡ frame_text frame ++ rest → ⊥
no_frame kind w h frame rest is none = omega (arith, ap length none, length-append (frame_text frame) rest, length-append frame.line frame.planes, some_line frame.line is.is_line)

pub same_front : (a b x y : List ℕ) → length a ≡ length b → a ++ x ≡ b ++ y → a ≡ b
same_front a b x y same joins = sym (take-append_seam a x) ∙ (λ i. take (same i) (joins i)) ∙ take-append_seam b y

pub same_back : (a b x y : List ℕ) → a ≡ b → a ++ x ≡ b ++ y → x ≡ y
same_back a b x y same joins = sym (drop-append_seam a x) ∙ (λ i. drop (length (same i)) (joins i)) ∙ drop-append_seam b y

pub same_frames : (kind : SpaceKind) (w h : ℕ) (first second : List Frame) → AllByRecursion (IsFrame kind w h) first → AllByRecursion (IsFrame kind w h) second → frames_text first ≡ frames_text second → first ≡ second
same_frames kind w h [] [] a b joins = refl
same_frames kind w h [] (frame ∷ frames) a b joins = absurd (no_frame kind w h frame (frames_text frames) b.0 joins)
same_frames kind w h (frame ∷ frames) [] a b joins = absurd (no_frame kind w h frame (frames_text frames) a.0 (sym joins))
same_frames kind w h (f ∷ fs) (g ∷ gs) a b joins =
    let parts : f.line ++ (f.planes ++ frames_text fs) ≡ g.line ++ (g.planes ++ frames_text gs)
    = sym (append_assoc f.line f.planes (frames_text fs)) ∙ joins ∙ append_assoc g.line g.planes (frames_text gs) in
    let line : f.line ≡ g.line = same_frame_line f.line g.line (f.planes ++ frames_text fs) (g.planes ++ frames_text gs) a.0.is_line b.0.is_line parts in
    let behind = same_back f.line g.line (f.planes ++ frames_text fs) (g.planes ++ frames_text gs) line parts in
    let planes : f.planes ≡ g.planes = same_front f.planes g.planes (frames_text fs) (frames_text gs) (a.0.whole ∙ sym b.0.whole) behind in
    let rest : frames_text fs ≡ frames_text gs = same_back f.planes g.planes (frames_text fs) (frames_text gs) planes behind in
    (λ i. record { line = line i; planes = planes i } ∷ same_frames kind w h fs gs a.1 b.1 rest i)

-- One clip.

pub one_clip : (bytes : List ℕ) (first second : Clip) → IsClipOf bytes first → IsClipOf bytes second → first ≡ second
one_clip bytes first second a b =
    let lined = one_lined a.sized.lined b.sized.lined in
    let kind : a.sized.kind ≡ b.sized.kind = one_kind (tag_value 67 b.sized.lined.tags) a.sized.kind b.sized.kind (subst (λ tags. GivesSpace (tag_value 67 tags) a.sized.kind) lined.tags a.sized.is_kind.space) b.sized.is_kind.space in
    let w : cells_w a.sized.lined.tags a.sized.kind ≡ cells_w b.sized.lined.tags b.sized.kind = λ i. cells_w (lined.tags i) (kind i) in
    let h : cells_h a.sized.lined.tags a.sized.kind ≡ cells_h b.sized.lined.tags b.sized.kind = λ i. cells_h (lined.tags i) (kind i) in
    let each : AllByRecursion (IsFrame b.sized.kind (cells_w b.sized.lined.tags b.sized.kind) (cells_h b.sized.lined.tags b.sized.kind)) a.frames
    = subst (λ k. AllByRecursion (IsFrame k (cells_w b.sized.lined.tags b.sized.kind) (cells_h b.sized.lined.tags b.sized.kind)) a.frames) kind
    (subst (λ n. AllByRecursion (IsFrame a.sized.kind n (cells_h b.sized.lined.tags b.sized.kind)) a.frames) w
    (subst (λ n. AllByRecursion (IsFrame a.sized.kind (cells_w a.sized.lined.tags a.sized.kind) n) a.frames) h a.each)) in
    let frames : a.frames ≡ b.frames
    = same_frames b.sized.kind (cells_w b.sized.lined.tags b.sized.kind) (cells_h b.sized.lined.tags b.sized.kind) a.frames b.frames each b.each (sym a.is ∙ lined.rest ∙ b.is) in
    let volume : first.volume ≡ second.volume
    = a.volume ∙ (λ i. volume_of (record { w = w i; h = h i; f = length (frames i) }) (samples_of (kind i)) (flat_map (λ frame. frame_cells (kind i) (w i) (h i) frame.planes) (frames i))) ∙ sym b.volume in
    let space : first.form.space ≡ second.form.space = a.space ∙ kind ∙ sym b.space in
    let tags : first.form.tags ≡ second.form.tags = a.tags ∙ ap carried lined.tags ∙ sym b.tags in
    (λ i. record { form = record { space = space i; tags = tags i }; volume = volume i })
