use Rattle.std.proofs.Common.{Global, Vec, ◌≡◌, ◌+◌, ◌/◌, ◌∷◌, ◌++◌, [], List, ℕ, Ok, Err, Result, length, map, ap, sym, subst, arith, ◌∙◌}
use Rattle.std.specs.Result.{IfErr, IsErrAnd}
use Rattle.std.proofs.lemmas.List.{map-append}
use Rattle.f2_format.specs.Dentry.{Dentry}
use Rattle.f2_dentry_block.specs.Dents.{IsFaultOf, dentry_of}
use Rattle.f2_dentry_block.specs.declared.dents.Dent.{Dent}
use Rattle.f2_dentry_block.specs.declared.dents.UnpackFault.{UnpackFault}
use Rattle.f2_dentry_block.proofs.Scanned.{IsScanned, IsScanned-start, IsScanned-skip, IsScanned-take, IsFaultOf-scanned, begins-used, begins-unused, begins-covered, dentries_of-scanned, dentry_fault-scanned}
use Rattle.f2_dentry_block.proofs.unpacking.unpack.Goals as goal
use Rattle.f2_dentry_block.proofs.unpacking.unpack.Goals.{then-slot-covered+then-is_used+in_ok-dent+in_ok-push, else-slot-covered, else-slot-covered-via-then-slot-covered+else-is_used, else-slot-covered-via-else-slot-covered}

-- the same for equal numbers and equal dentries
moved : (block : List ℕ) (slot covered to : ℕ) (dentries others : List Dentry) → to ≡ covered → others ≡ dentries → IsScanned block slot covered dentries
    → IsScanned block slot to others
moved block slot covered to dentries others same_reach same scanned =
    subst (λ (n : ℕ). IsScanned block slot n others) (sym same_reach) (subst (λ (ds : List Dentry). IsScanned block slot covered ds) (sym same) scanned)

-- what holds of the only error that there may be
error_is : {X : Type 0} (result : Result X UnpackFault) (fault : UnpackFault) (P : UnpackFault → Type 0) → P fault → IsErrAnd result (λ e. e ≡ fault) → IfErr result P
error_is (Ok x) fault P holds is = tt
error_is (Err e) fault P holds is = subst P (sym is) holds

pub loop-slot-init : goal.loop-slot-init
loop-slot-init c =
    subst (λ (ds : List Dentry). IsScanned c.args.b.now 0 0 ds) (sym (ap (map dentry_of) c.new-dents.ensures.items)) (IsScanned-start c.args.b.now)

pub loop-slot-preserved : goal.loop-slot-preserved
loop-slot-preserved c =
    let block = c.args.b.now in
    let slot = c.loop-slot.slot in
    let covered = c.loop-slot.covered in
    let dents = c.loop-slot.dents.items in
    let dentries = map dentry_of dents in
    let same : c.if-slot-covered.dents ≡ c.loop-slot.dents → map dentry_of c.if-slot-covered.dents.items ≡ dentries = λ is. ap (λ (v : Vec Dent Global). map dentry_of v.items) is in
    elim c.if-slot-covered.branch [
      | then-slot-covered+then-is_used+in_ok-dent+in_ok-push w ↦
          let dent = w.in_ok-dent.dent in
          let used = sym w.is_used.ensures ∙ w.if-is_used.true in
          let begins = begins-used block slot covered dentries c.loop-slot.invariant w.if-slot-covered.true used in
          let reach : c.if-slot-covered.covered ≡ slot + (length dent.name + 7) / 8 =
          w.covered-is ∙ ap (λ (n : ℕ). slot + n) (w.slots_of_len.ensures ∙ ap (λ (n : ℕ). (n + 7) / 8) w.len.ensures) in
          let more : map dentry_of c.if-slot-covered.dents.items ≡ dentries ++ dentry_of dent ∷ [] =
          ap (λ (v : Vec Dent Global). map dentry_of v.items) w.dents-is
          ∙ ap (map dentry_of) w.in_ok-push.ensures.items
          ∙ map-append dentry_of dents (dent ∷ []) in
          moved block (slot + 1) (slot + (length dent.name + 7) / 8) c.if-slot-covered.covered (dentries ++ dentry_of dent ∷ []) (map dentry_of c.if-slot-covered.dents.items) reach more
          (IsScanned-take block slot covered dentries (dentry_of dent) c.told-b c.loop-slot.invariant begins w.in_ok-dent.ensures.good w.in_ok-dent.ensures.dent)
      | else-slot-covered w ↦ elim w.else-slot-covered.branch [
        | else-slot-covered-via-then-slot-covered+else-is_used w' ↦
            let unused = sym w'.is_used.ensures ∙ w'.if-is_used.false in
            moved block (slot + 1) covered c.if-slot-covered.covered dentries (map dentry_of c.if-slot-covered.dents.items) w.covered-is (same w.dents-is)
            (IsScanned-skip block slot covered dentries c.loop-slot.invariant (begins-unused block slot unused))
        | else-slot-covered-via-else-slot-covered w' ↦
            moved block (slot + 1) covered c.if-slot-covered.covered dentries (map dentry_of c.if-slot-covered.dents.items) w.covered-is (same w.dents-is)
            (IsScanned-skip block slot covered dentries c.loop-slot.invariant
            (begins-covered block slot covered dentries c.loop-slot.invariant w'.if-slot-covered.false))
      ]
    ]

pub returns-in_err-dent-clause-fault : goal.returns-in_err-dent-clause-fault
returns-in_err-dent-clause-fault c =
    let block = c.args.b.now in
    let dentries = map dentry_of c.loop-slot.dents.items in
    let used = sym c.is_used.ensures ∙ c.if-is_used.true in
    let begins = begins-used block c.loop-slot.slot c.loop-slot.covered dentries c.loop-slot.invariant c.if-slot-covered.true used in
    let fault = c.in_err-dent.field-0.0 in
    error_is c.from_residual.result fault (IsFaultOf block)
    (IsFaultOf-scanned block c.loop-slot.slot c.loop-slot.covered dentries fault c.loop-slot-test.true c.loop-slot.invariant begins c.in_err-dent.ensures.fault)
    c.from_residual.ensures.1

pub returns-clause-dents : goal.returns-clause-dents
returns-clause-dents c = dentries_of-scanned c.args.b.now c.loop-slot.slot c.loop-slot.covered (map dentry_of c.loop-slot.dents.items) (omega arith) c.loop-slot.invariant

pub returns-clause-no_fault : goal.returns-clause-no_fault
returns-clause-no_fault c = dentry_fault-scanned c.args.b.now c.loop-slot.slot c.loop-slot.covered (map dentry_of c.loop-slot.dents.items) (omega arith) c.loop-slot.invariant
