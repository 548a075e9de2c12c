-- The job of `tile`: each value is in its range, the names differ, and no axis is narrow.
use Rattle.std.proofs.Common.{◌≡◌, ◌≤◌, ℕ, List, [], ◌∷◌, refl, sym, subst, Bool, true, false, cond, ltb-false}
use Rattle.std.specs.Prelude.{Option, Some, None, Result, Ok, IfOk}
use Rattle.cells.specs.declared.place.Axis.{Axis}
use Rattle.cells.specs.declared.place.Axis.TheVariants.{X, Y, F}
use Rattle.cells.specs.declared.place.Size.{Size}
use Rattle.limits.specs.declared.bounds.TheConstants.{GREATEST_AXIS, GREATEST_OVERLAP, GREATEST_SEED, GREATEST_TOLERANCE, LEAST_WRAPPED_AXIS}
use Rattle.job_words.specs.declared.job.WordFault.{WordFault}
use Rattle.job_words.specs.declared.keys.Key.TheVariants as key
use Rattle.job_words.specs.declared.table.Row.{Row}
use Rattle.job_words.specs.declared.settings.Setting.{Setting}
use Rattle.job_words.specs.declared.tile.TileJob.{TileJob}
use Rattle.job_words.specs.declared.tile.Wrap.{Wrap}
use Rattle.job_words.specs.Names.{AreNames}
use Rattle.job_words.specs.Words.{value_at, all_settings, HasAllValues}
use Rattle.job_words.specs.TileWords.{HasTileValues, IsTileJob, IsWide, is_narrow, narrow_axis, tile_of, tile_rows, unless_narrow}
use Rattle.job_words.proofs.Full.{AreAll, AreSound, all_of_words, are_names, full, given_at, is_named, names_set, number_within, sound}

tile_sound : AreSound tile_rows tile_rows
tile_sound = sound tile_rows tile_rows refl

values : (all : List Setting) → HasAllValues tile_rows all → HasTileValues all
values all full = record {
  sample = is_named (value_at key.Sample all) (given_at tile_rows all full key.Sample);
  out = is_named (value_at key.Out all) (given_at tile_rows all full key.Out);
  map = is_named (value_at key.Map all) (given_at tile_rows all full key.Map);
  size = record {
    width = given_at tile_rows all full key.Width;
    height = given_at tile_rows all full key.Height;
    frames = given_at tile_rows all full key.Frames;
  };
  wrap = given_at tile_rows all full key.Wrap;
  side = given_at tile_rows all full key.Side;
  overlap = given_at tile_rows all full key.Overlap;
  tol = given_at tile_rows all full key.Tol;
  seed = given_at tile_rows all full key.Seed;
}

-- an axis that isn't narrow
not_narrow : (wrapped : Bool) (n : ℕ) → is_narrow wrapped n ≡ false → wrapped ≡ true → LEAST_WRAPPED_AXIS ≤ n
not_narrow true n e is = ltb-false n LEAST_WRAPPED_AXIS e
not_narrow false n e is = absurd (cc)

none_of : (a b c : Bool) → cond a (Some X) (cond b (Some Y) (cond c (Some F) None)) ≡ None → (a ≡ false) × (b ≡ false) × (c ≡ false)
none_of false false false e = (refl, refl, refl)
none_of true b c e = absurd (cc)
none_of false true c e = absurd (cc)
none_of false false true e = absurd (cc)

wide : (wrap : Wrap) (size : Size) → narrow_axis wrap size ≡ None → IsWide wrap size
wide wrap size none =
    let none_is = none_of (is_narrow wrap.x size.w) (is_narrow wrap.y size.h) (is_narrow wrap.f size.f) none in
    record {
      columns = not_narrow wrap.x size.w none_is.0;
      lines = not_narrow wrap.y size.h none_is.1;
      frames = not_narrow wrap.f size.f none_is.2;
    }

lawful : (all : List Setting) → AreAll tile_rows all → HasTileValues all → narrow_axis (tile_of all).plan.wrap (tile_of all).size ≡ None → IsTileJob (tile_of all)
lawful all a v none =
    let keys = key.Sample ∷ key.Out ∷ key.Map ∷ [] in
    let listed = names_set tile_rows all tile_sound a keys (v.sample, (v.out, (v.map, tt))) in
    record {
      names = subst AreNames listed (are_names tile_rows all tile_sound a keys refl);
      axes = record {
        w = number_within 1 GREATEST_AXIS (value_at key.Width all) v.size.width;
        h = number_within 1 GREATEST_AXIS (value_at key.Height all) v.size.height;
        f = number_within 1 GREATEST_AXIS (value_at key.Frames all) v.size.frames;
      };
      wide = wide (tile_of all).plan.wrap (tile_of all).size none;
      side = number_within 1 GREATEST_AXIS (value_at key.Side all) v.side;
      overlap = (number_within 0 GREATEST_OVERLAP (value_at key.Overlap all) v.overlap).1;
      tol = (number_within 0 GREATEST_TOLERANCE (value_at key.Tol all) v.tol).1;
      seed = (number_within 0 GREATEST_SEED (value_at key.Seed all) v.seed).1;
    }

-- as the calls see them
module _ (rows : List Row) (words : List (List ℕ)) (all seen : List Setting) (table : rows ≡ tile_rows) (read : all_settings rows words ≡ Ok all) (is : seen ≡ all) where
  whole : AreAll tile_rows seen
  whole = subst (AreAll tile_rows) (sym is) (all_of_words tile_rows words all (subst (λ r. all_settings r words ≡ Ok all) table read))

  pub tile_values : HasTileValues seen
  tile_values = values seen (full tile_rows seen tile_sound whole)

  -- what is answered where the job is that of the values
  pub tile_lawful : (made : TileJob) (answer : Result TileJob WordFault) → made ≡ tile_of seen → answer ≡ unless_narrow (narrow_axis made.plan.wrap made.size) made → IfOk answer IsTileJob
  tile_lawful made answer from is_answer = subst (λ r. IfOk r IsTileJob) (sym is_answer) (by (narrow_axis made.plan.wrap made.size) refl)
    where
      by : (o : Option Axis) → narrow_axis made.plan.wrap made.size ≡ o → IfOk (unless_narrow o made) IsTileJob
      by (Some axis) was = tt
      by None was = subst IsTileJob (sym from) (lawful seen whole tile_values (subst (λ (job : TileJob). narrow_axis job.plan.wrap job.size ≡ None) from was))
