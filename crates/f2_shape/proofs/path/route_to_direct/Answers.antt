use Rattle.std.proofs.Common.{◌∷◌, arith, sym}
use Rattle.f2_shape.specs.Routes.{route_through}
use Rattle.f2_shape.proofs.Parts.{down_in_inode, down_in_first, down_in_second, down_in_double, slots_in_inode, slots_in_first, slots_in_second, slots_in_double}
use Rattle.f2_shape.proofs.path.route_to_direct.Goals as goal

pub returns-then-number-lt2 : goal.returns-then-number-lt2
returns-then-number-lt2 c =
    let k = c.args.number in
    let nodes = down_in_inode k (omega arith) in
    let slots = slots_in_inode k c.args.slot (omega arith) in
    sym (λ i. route_through (0 ∷ nodes i) (slots i))

pub returns-then-number : goal.returns-then-number
returns-then-number c =
    let k = c.args.number in
    let nodes = down_in_first k (omega arith) (omega arith) in
    let slots = slots_in_first k c.args.slot (omega arith) (omega arith) in
    sym (λ i. route_through (0 ∷ nodes i) (slots i))

pub returns-then-number-2 : goal.returns-then-number-2
returns-then-number-2 c =
    let k = c.args.number in
    let nodes = down_in_second k (omega arith) (omega arith) in
    let slots = slots_in_second k c.args.slot (omega arith) (omega arith) in
    sym (λ i. route_through (0 ∷ nodes i) (slots i))

pub returns : goal.returns
returns c =
    let k = c.args.number in
    let nodes = down_in_double k (omega arith) in
    let slots = slots_in_double k c.args.slot (omega arith) in
    sym (λ i. route_through (0 ∷ nodes i) (slots i))
