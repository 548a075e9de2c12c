-- The two files that a run writes: each holds its text, and all others are as before.
use Rattle.std.proofs.Common.{◌≡◌, ◌≢◌, ℕ, List, [], ap, ◌∙◌, arith}
use Rattle.std.specs.FinMap.{get, insert}
use Rattle.shelf_traits.specs.Files.{Files, content_of}
use Rattle.shelf_traits.proofs.FileLaws.{content_beside, content_inserted, get_beside}
use Rattle.job_words.specs.declared.tile.TileJob.{TileJob}
use Rattle.job_words.specs.TileWords.{IsTileJob}

module _ (job : TileJob) (lawful : IsTileJob job) (before after : Files) (out_text map_text : List ℕ) (whole : after ≡ insert (insert before job.out out_text) job.map map_text) where
  out_not_map : job.out ≢ job.map
  out_not_map = lawful.names.apart 1 2 [] (omega arith) (omega arith)

  abbrev with_out : Files
  with_out = insert before job.out out_text

  pub others_stay : (name : List ℕ) → name ≢ job.out → name ≢ job.map → get after name ≡ get before name
  others_stay name not_out not_map = ap (λ files. get files name) whole ∙ get_beside with_out job.map map_text name not_map ∙ get_beside before job.out out_text name not_out

  pub out_holds : content_of after job.out ≡ out_text
  out_holds = ap (λ files. content_of files job.out) whole ∙ content_beside with_out job.map map_text job.out out_not_map ∙ content_inserted before job.out out_text

  pub map_holds : content_of after job.map ≡ map_text
  map_holds = ap (λ files. content_of files job.map) whole ∙ content_inserted with_out job.map map_text
