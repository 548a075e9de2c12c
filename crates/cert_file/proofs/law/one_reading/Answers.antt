use Rattle.cert_file.specs.RecordFiles.{record_file_read}
use Rattle.cert_file.proofs.Once.{ok_not_err, same_err, same_ok}
use Rattle.cert_file.proofs.law.one_reading.Goals as goal

pub returns-clause-one_value : goal.returns-clause-one_value
returns-clause-one_value c = λ bytes first second a b. same_ok (record_file_read bytes) first second a b

pub returns-clause-one_refusal : goal.returns-clause-one_refusal
returns-clause-one_refusal c = λ bytes first second a b. same_err (record_file_read bytes) first second a b

pub returns-clause-not_both : goal.returns-clause-not_both
returns-clause-not_both c = λ bytes file refusal a b. ok_not_err (record_file_read bytes) file refusal a b
