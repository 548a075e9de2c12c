-- A record that stands breaks no rule.
use Rattle.std.proofs.Common.{inl, inr}
use Rattle.cut_check.specs.declared.record.CutFault.{CutFault}
use Rattle.cut_check.specs.declared.record.CutRecord.{CutRecord}
use Rattle.cut_check.specs.Records.{CutStands, IsFirstCutFault, Setting}

pub no_fault : (s : Setting) (cut : CutRecord) (fault : CutFault) → CutStands s cut → IsFirstCutFault s cut fault → ⊥
no_fault s cut fault stands (inl broken) = broken.outside stands.lawful.fits
no_fault s cut fault stands (inr (inl broken)) = broken.place.here (stands.lawful.unfilled fault.place broken.place.below)
no_fault s cut fault stands (inr (inr (inl broken))) = broken.place.here (stands.lawful.old fault.place broken.place.below)
no_fault s cut fault stands (inr (inr (inr (inl broken)))) = broken.place.here (stands.bounded fault.place broken.place.below)
no_fault s cut fault stands (inr (inr (inr (inr (inl broken))))) = broken.place.here (stands.balanced fault.place broken.place.below)
no_fault s cut fault stands (inr (inr (inr (inr (inr broken))))) = broken.value stands.value
