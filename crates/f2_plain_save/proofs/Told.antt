-- What is told of a disk, over several calls.
use Rattle.std.proofs.Common.{◌≡◌, sym, subst}
use Rattle.std.specs.Prelude.{Option, Some, None, Result, Ok, Err, OnOk, OnErr, option_map}
use Rattle.f2_disk.specs.Contents.{Contents, WhereTold, flushed}

-- what follows from each outcome
pub either_way : {T E : Type 0} (result : Result T E) (P Q R : Type 0) → (P → R) → (Q → R) → OnOk result P → OnErr result Q → R
either_way (Ok v) P Q R left right ok err = left ok
either_way (Err e) P Q R left right ok err = right err

-- two relations at once
pub told_both : (old new : Option Contents) (R S : Contents → Contents → Type 0) → WhereTold old new R → WhereTold old new S → WhereTold old new (λ a b. R a b × S a b)
told_both None None R S first second = tt
told_both None (Some b) R S first second = first
told_both (Some a) None R S first second = first
told_both (Some a) (Some b) R S first second = (first, second)

-- a flush after other calls
pub told_flushed : (old mid new : Option Contents) (R S : Contents → Contents → Type 0) → ((a b : Contents) → R a b → S a (flushed b)) → WhereTold old mid R → new ≡ option_map flushed mid → WhereTold old new S
told_flushed None None new R S after told is = subst (λ (n : Option Contents). WhereTold None n S) (sym is) tt
told_flushed None (Some b) new R S after told is = absurd told
told_flushed (Some a) None new R S after told is = absurd told
told_flushed (Some a) (Some b) new R S after told is = subst (λ (n : Option Contents). WhereTold (Some a) n S) (sym is) (after a b told)

-- what is told of the same contents
pub told_kept : (old mid new : Option Contents) (R : Contents → Contents → Type 0) → WhereTold old mid R → new ≡ mid → WhereTold old new R
told_kept old mid new R told is = subst (λ (n : Option Contents). WhereTold old n R) (sym is) told
