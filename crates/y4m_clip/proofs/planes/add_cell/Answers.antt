use Rattle.std.proofs.Common.{arith}
use Rattle.std.proofs.lemmas.Grind.{common_steps}
use Rattle.y4m_clip.proofs.planes.add_cell.Goals as goal

pub returns-in-C420 : goal.returns-in-C420
returns-in-C420 c = grind (arith, common_steps)

pub returns-in-C411 : goal.returns-in-C411
returns-in-C411 c = grind (arith, common_steps)

pub returns-in-C422 : goal.returns-in-C422
returns-in-C422 c = grind (arith, common_steps)

pub bounds-red-x-in-C411 : goal.bounds-red-x-in-C411
bounds-red-x-in-C411 c = grind (arith, common_steps)

pub bounds-red-x-in-C420 : goal.bounds-red-x-in-C420
bounds-red-x-in-C420 c = grind (arith, common_steps)

pub bounds-blue-x-in-C411 : goal.bounds-blue-x-in-C411
bounds-blue-x-in-C411 c = grind (arith, common_steps)

pub bounds-blue-x-in-C420 : goal.bounds-blue-x-in-C420
bounds-blue-x-in-C420 c = grind (arith, common_steps)

pub returns-in-C444 : goal.returns-in-C444
returns-in-C444 c = grind (arith, common_steps)

pub bounds-red-x-in-C422 : goal.bounds-red-x-in-C422
bounds-red-x-in-C422 c = grind (arith, common_steps)

pub bounds-lower-x-in-C420 : goal.bounds-lower-x-in-C420
bounds-lower-x-in-C420 c = grind (arith, common_steps)

pub bounds-upper-x-in-C411-4 : goal.bounds-upper-x-in-C411-4
bounds-upper-x-in-C411-4 c = grind (arith, common_steps)

pub bounds-blue-x-in-C422 : goal.bounds-blue-x-in-C422
bounds-blue-x-in-C422 c = grind (arith, common_steps)

pub bounds-lower-x : goal.bounds-lower-x
bounds-lower-x c = grind (arith, common_steps)

pub returns-in-Mono : goal.returns-in-Mono
returns-in-Mono c = grind (arith, common_steps)

pub bounds-upper-x-in-C411-3 : goal.bounds-upper-x-in-C411-3
bounds-upper-x-in-C411-3 c = grind (arith, common_steps)

pub bounds-red-x : goal.bounds-red-x
bounds-red-x c = grind (arith, common_steps)

pub bounds-upper-x-in-C420-2 : goal.bounds-upper-x-in-C420-2
bounds-upper-x-in-C420-2 c = grind (arith, common_steps)

pub bounds-upper-x-in-C411-2 : goal.bounds-upper-x-in-C411-2
bounds-upper-x-in-C411-2 c = grind (arith, common_steps)

pub overflow_add-x-in-C411-3 : goal.overflow_add-x-in-C411-3
overflow_add-x-in-C411-3 c = grind (arith, common_steps)

pub overflow_mul-x-in-C411-4 : goal.overflow_mul-x-in-C411-4
overflow_mul-x-in-C411-4 c = grind (arith, common_steps)

pub overflow_add-x-in-C420-2 : goal.overflow_add-x-in-C420-2
overflow_add-x-in-C420-2 c = grind (arith, common_steps)

pub bounds-upper-x-in-C422-2 : goal.bounds-upper-x-in-C422-2
bounds-upper-x-in-C422-2 c = grind (arith, common_steps)

pub bounds-blue-x : goal.bounds-blue-x
bounds-blue-x c = grind (arith, common_steps)

pub overflow_mul-x-in-C420-4 : goal.overflow_mul-x-in-C420-4
overflow_mul-x-in-C420-4 c = grind (arith, common_steps)

pub overflow_add-x-in-C411-2 : goal.overflow_add-x-in-C411-2
overflow_add-x-in-C411-2 c = grind (arith, common_steps)

pub overflow_mul-x-in-C420-3 : goal.overflow_mul-x-in-C420-3
overflow_mul-x-in-C420-3 c = grind (arith, common_steps)

pub overflow_mul-x-in-C411-3 : goal.overflow_mul-x-in-C411-3
overflow_mul-x-in-C411-3 c = grind (arith, common_steps)

pub bounds-upper-x-in-C420 : goal.bounds-upper-x-in-C420
bounds-upper-x-in-C420 c = grind (arith, common_steps)

pub bounds-upper-x-in-C444 : goal.bounds-upper-x-in-C444
bounds-upper-x-in-C444 c = grind (arith, common_steps)

pub bounds-upper-x-in-C411 : goal.bounds-upper-x-in-C411
bounds-upper-x-in-C411 c = grind (arith, common_steps)

pub bounds-upper-x-in-C422 : goal.bounds-upper-x-in-C422
bounds-upper-x-in-C422 c = grind (arith, common_steps)

pub overflow_add-x-in-C420 : goal.overflow_add-x-in-C420
overflow_add-x-in-C420 c = grind (arith, common_steps)

pub overflow_add-x-in-C411 : goal.overflow_add-x-in-C411
overflow_add-x-in-C411 c = grind (arith, common_steps)

pub overflow_mul-x-in-C420-2 : goal.overflow_mul-x-in-C420-2
overflow_mul-x-in-C420-2 c = grind (arith, common_steps)

pub overflow_mul-x-in-C422 : goal.overflow_mul-x-in-C422
overflow_mul-x-in-C422 c = grind (arith, common_steps)

pub overflow_mul-x-in-C411-2 : goal.overflow_mul-x-in-C411-2
overflow_mul-x-in-C411-2 c = grind (arith, common_steps)

pub overflow_mul-x-in-C420 : goal.overflow_mul-x-in-C420
overflow_mul-x-in-C420 c = grind (arith, common_steps)

pub overflow_mul-x-in-C411 : goal.overflow_mul-x-in-C411
overflow_mul-x-in-C411 c = grind (arith, common_steps)
