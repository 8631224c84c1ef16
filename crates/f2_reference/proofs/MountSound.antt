-- What a mount finds is sound.
use Rattle.std.proofs.lemmas.Option.{none-some}
use Rattle.std.proofs.Common.{ℕ, All, arith}
use Rattle.std.specs.Prelude.{Result, Ok, Err, IfOk, OnOk, OnErr}
use Rattle.f2_model.specs.State.{Meaning}
use Rattle.f2_model.specs.Step.{found}
use Rattle.f2_reference_calls.specs.Given.{IsFitting}
use Rattle.f2_reference_state.specs.Seen.{Seen, after_turn}
use Rattle.f2_reference.specs.Sound.{IsFittingMark, IsSound}
use Rattle.f2_reference.proofs.MountRolls.{rolled_fitting}

-- what follows from a result and from what it comes with
pub after_ok : {A E : Type 0} (result : Result A E) (T Q : A → Type 0) (P : Type 0) → IfOk result T → OnOk result P → ((answer : A) → T answer → P → Q answer) → IfOk result Q
after_ok (Ok answer) T Q P of so next = next answer of so
after_ok (Err refused) T Q P of so next = tt

pub either_way : {A E : Type 0} (result : Result A E) (P Q R : Type 0) → OnOk result P → OnErr result Q → (P → R) → (Q → R) → R
either_way (Ok answer) P Q R so else_so next other = next so
either_way (Err refused) P Q R so else_so next other = other else_so

pub found_sound : (old : Seen) (meaning : Meaning) (choice blocks : ℕ) → IsSound old → IsFitting meaning.base → All IsFittingMark meaning.marks → IsSound (record (after_turn old (found old.state meaning choice)) { blocks = blocks })
found_sound old meaning choice blocks sound fitting all = record {
  size = sound.size;
  live = rolled_fitting meaning.base meaning.marks fitting all;
  base = fitting;
  pending = λ tree is. absurd (none-some tree is);
  marks = all;
  acknowledged = omega arith;
}
