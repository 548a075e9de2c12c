-- The names of a job without that of the target.
use Rattle.std.proofs.Common.{◌≢◌, ℕ, zero, suc, ◌++◌, List, [], ◌∷◌, sym, subst, arith}
use Rattle.std.specs.Prelude.{All, AllPairs}
use Rattle.job_words.specs.declared.transfer.TransferJob.{TransferJob}
use Rattle.job_words.specs.Names.{AreNames, name_list}
use Rattle.job_words.specs.TransferWords.{IsTransferJob}

-- the second of some names is left out
without_second : (a b : List ℕ) (rest : List (List ℕ)) → AreNames (a ∷ b ∷ rest) → AreNames (a ∷ rest)
without_second a b rest are = record { given = given; apart = apart }
  where
    given : All (λ name. name ≢ []) (a ∷ rest)
    given zero d lt = are.given 0 d (omega arith)
    given (suc i) d lt = are.given (suc (suc i)) d (omega (arith, lt))

    apart : AllPairs (λ x y. x ≢ y) (a ∷ rest)
    apart i zero d lt below = absurd (omega (arith, lt))
    apart zero (suc j) d lt below = are.apart 0 (suc (suc j)) d (omega arith) (omega (arith, below))
    apart (suc i) (suc j) d lt below = are.apart (suc (suc i)) (suc (suc j)) d (omega (arith, lt)) (omega (arith, below))

pub file_names : (job : TransferJob) → IsTransferJob job → AreNames (name_list job.names)
file_names job lawful =
    let names = job.names in
    subst (λ more. AreNames (names.sample ∷ (more ++ names.out ∷ names.map ∷ names.record_file ∷ []))) (sym lawful.one)
    (without_second names.sample job.target (names.out ∷ names.map ∷ names.record_file ∷ []) lawful.names)
