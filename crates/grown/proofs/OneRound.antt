-- There is one placement of a round, and none where no window costs anything.
use Rattle.std.proofs.Common.{◌≡◌, sym, ◌∙◌, subst, arith}
use Rattle.std.specs.Prelude.{Some}
use Rattle.cells.specs.declared.place.Box3.{Box3}
use Rattle.cells.specs.Boxes.{HasCells}
use Rattle.cells.specs.Distances.{distance}
use Rattle.map_canvas.specs.Maps.{map_at}
use Rattle.match_error.specs.Errors.{error_of}
use Rattle.cost_windows.proofs.OneWorst.{one_worst}
use Rattle.patch_picks.specs.Lists.{fit_list, part_lists}
use Rattle.patch_picks.specs.Modes.{window}
use Rattle.patch_picks.specs.Picks.{IsPick}
use Rattle.patch_picks.proofs.OnePick.{one_pick}
use Rattle.grown.specs.Rounds.{NoRoundIsIdle, ThereIsOneRound}

same_box : (one other : Box3) → one.corner ≡ other.corner → one.size ≡ other.size → one ≡ other
same_box one other corner size = λ i. record { corner = corner i; size = size i }

pub one_round : ThereIsOneRound
one_round side tol m sample draws one other is also =
    let corners = one_worst (distance sample) m.size (map_at m) (window side m.size sample) also.rect.corner is.rect.corner (subst HasCells is.worst.size is.worst.cells) also.worst.worst.worst is.worst.worst.worst in
    let rects : also.rect ≡ is.rect = same_box also.rect is.rect corners (also.worst.size ∙ sym is.worst.size) in
    one_pick (error_of m sample) (Some tol) (part_lists (fit_list is.rect) sample) draws one other is.picked (subst (λ rect. IsPick (error_of m sample) (Some tol) (part_lists (fit_list rect) sample) draws other) rects also.picked)

pub none_idle : NoRoundIsIdle
none_idle side tol m sample draws placement is none =
    omega (arith, is.worst.some, is.worst.worst.is_sum, none.worst.is_sum, none.worst.worst.greatest is.rect.corner is.worst.worst.worst.inside)
