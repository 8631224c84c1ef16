-- Lists that a reader reads one member after another.
use Rattle.std.proofs.Common.{◌≡◌, List, [], ◌∷◌, ◌++◌, refl, ◌∙◌, ap, subst, append_assoc}
use Rattle.std.proofs.lemmas.List.{append-nil}

-- what was read so far, where `all` says what the whole text is, and `left` what the rest of it is
pub record Growth {X : Type 0} (all left : List X → Type 0) (done : List X) : Type 0 where
  pub reads : (more : List X) → left more → all (done ++ more)
  pub only : (whole : List X) → all whole → (more : List X) × (whole ≡ done ++ more) × left more

-- nothing yet
pub grows_start : {X : Type 0} (all : List X → Type 0) → Growth all all []
grows_start all = record { reads = λ more h. h; only = λ whole h. (whole, refl, h) }

-- the rest begins with this member, and nothing else
pub record Begins {X : Type 0} (left next : List X → Type 0) (x : X) : Type 0 where
  pub reads : (more : List X) → next more → left (x ∷ more)
  pub only : (whole : List X) → left whole → (more : List X) × (whole ≡ x ∷ more) × next more

-- one member more
pub grows_more : {X : Type 0} (all left next : List X → Type 0) (done longer : List X) (x : X)
    → Growth all left done → Begins left next x → longer ≡ done ++ x ∷ [] → Growth all next longer
grows_more all left next done longer x grown begins e = record {
  reads = λ more h. rw (e, append_assoc) (grown.reads (x ∷ more) (begins.reads more h));
  only = λ whole h.
      let before = grown.only whole h in
      let after = begins.only before.0 before.2 in
      (after.0, rw (e, append_assoc) (before.1 ∙ ap (λ rest. done ++ rest) after.1), after.2);
}

-- nothing is left
pub grows_end : {X : Type 0} (all left : List X → Type 0) (done : List X) → Growth all left done → left [] → all done
grows_end all left done grown h = subst all (append-nil done) (grown.reads [] h)

-- the rest is nothing
pub grows_none : {X : Type 0} (all left : List X → Type 0) (done : List X) → Growth all left done → ((more : List X) → ¬ (left more)) → (whole : List X) → ¬ (all whole)
grows_none all left done grown none whole h =
    let before = grown.only whole h in
    none before.0 before.2
