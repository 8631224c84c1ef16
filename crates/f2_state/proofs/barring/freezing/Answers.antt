use Rattle.std.proofs.Common.{◌≡◌, ◌⊎◌, inl, inr, ℕ, List, sym, ap, ◌∙◌}
use Rattle.f2_model.specs.State.{State}
use Rattle.f2_model.specs.Step.{freezing, freezing_walked}
use Rattle.f2_model.specs.Tree.{walk}
use Rattle.f2_model.specs.declared.requests.Piece.{Piece}
use Rattle.f2_model.specs.declared.requests.Request.{Request}
use Rattle.f2_model.specs.declared.requests.Request.TheVariants.{Write, Truncate, Unlink, Rename, Fsync}
use Rattle.f2_state.proofs.barring.freezing.Goals as goal

-- the calls that name a file which an fsync may keep from changing
abbrev Names : Request → List (List ℕ) → Type 0
Names request path =
    ((pieces : List Piece) × (request ≡ Write path pieces)) ⊎ (((size : ℕ) × (request ≡ Truncate path size)) ⊎ ((request ≡ Unlink path) ⊎ (((to : List (List ℕ)) × (request ≡ Rename path to)) ⊎ (request ≡ Fsync path))))

named : (state : State) (request : Request) (path : List (List ℕ)) → Names request path → freezing state request ≡ freezing_walked state (walk state.live path)
named state request path (inl (pieces, is)) = ap (λ r. freezing state r) is
named state request path (inr (inl (size, is))) = ap (λ r. freezing state r) is
named state request path (inr (inr (inl is))) = ap (λ r. freezing state r) is
named state request path (inr (inr (inr (inl (to, is))))) = ap (λ r. freezing state r) is
named state request path (inr (inr (inr (inr is)))) = ap (λ r. freezing state r) is

pub returns-in-Write : goal.returns-in-Write
returns-in-Write c = λ most state good known. c.holder.ensures most state good known ∙ sym (named state c.args.request.now c.in-Write.path c.in-Write.is)
