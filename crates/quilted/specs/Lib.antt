pub mod Runs
pub mod Costs
pub mod PlanLimit
pub mod Quilted
pub mod OneLimit
pub mod Totals
