-- What the words of a call can be.
use Rattle.std.proofs.Common.{◌≡◌, ◌≢◌, ℕ, ◌≤◌, List, [], ◌∷◌, length, refl, sym, ◌∙◌, ap, subst, arith, codes}
use Rattle.std.specs.List.{flat_map}
use Rattle.f2_model.specs.declared.requests.Piece.{Piece}
use Rattle.f2_model.specs.declared.requests.Request.{Request}
use Rattle.f2_model.specs.declared.requests.Request.TheVariants as request
use Rattle.f2_script.specs.declared.verbs.Op.{Op}
use Rattle.f2_script.specs.declared.verbs.Op.TheVariants as op
use Rattle.f2_script.specs.Words.{Named, AreWords}
use Rattle.f2_script.specs.Lines.{piece_words, request_words}
use Rattle.f2_script.specs.Verbs.{op_word}
use Rattle.f2_script.specs.Grammar.{IsRequest}
use Rattle.f2_script.proofs.PathLemmas.{one_path}
use Rattle.f2_script.proofs.WordLemmas.{one_number, one_pieces}
use Rattle.f2_script.proofs.VerbLemmas.{op_parts}

-- a write that has too few or too many pieces is no call
pub write_none : (path : List ℕ) (rest : List (List ℕ)) (pieces : List Piece) → AreWords (flat_map piece_words pieces) rest
    → ((1 ≤ length pieces) × (length pieces ≤ 8) → ⊥) → (call : Request) → ¬ (IsRequest (codes "write" ∷ path ∷ rest) call)
write_none path rest pieces are bad call h =
    let p = op_parts op.Write (path ∷ rest) call h in
    let k : IsRequest (codes "write" ∷ path ∷ rest) (request.Write p.0 p.1) = subst (IsRequest (codes "write" ∷ path ∷ rest)) p.2 h in
    let same : p.1 ≡ pieces = one_pieces p.1 pieces rest k.1.1.1 are in
    bad (subst (λ ps. (1 ≤ length ps) × (length ps ≤ 8)) same k.0)

-- words that aren't one path are no call of one path
pub call_none : (o : Op) (texts : List (List ℕ)) → (o ≢ op.Write) → (o ≢ op.Truncate) → (o ≢ op.Rename) → (o ≢ op.Read) → (o ≢ op.Sync)
    → ((path : List (List ℕ)) → ¬ (AreWords (Named path ∷ []) texts)) → (call : Request) → ¬ (IsRequest (op_word o ∷ texts) call)
call_none op.Create texts w t n r s none call h =
    let p = op_parts op.Create texts call h in
    let k : IsRequest (op_word op.Create ∷ texts) (request.Create p.0) = subst (IsRequest (op_word op.Create ∷ texts)) p.1 h in
    none p.0 k.1.1
call_none op.Mkdir texts w t n r s none call h =
    let p = op_parts op.Mkdir texts call h in
    let k : IsRequest (op_word op.Mkdir ∷ texts) (request.Mkdir p.0) = subst (IsRequest (op_word op.Mkdir ∷ texts)) p.1 h in
    none p.0 k.1.1
call_none op.Unlink texts w t n r s none call h =
    let p = op_parts op.Unlink texts call h in
    let k : IsRequest (op_word op.Unlink ∷ texts) (request.Unlink p.0) = subst (IsRequest (op_word op.Unlink ∷ texts)) p.1 h in
    none p.0 k.1.1
call_none op.Rmdir texts w t n r s none call h =
    let p = op_parts op.Rmdir texts call h in
    let k : IsRequest (op_word op.Rmdir ∷ texts) (request.Rmdir p.0) = subst (IsRequest (op_word op.Rmdir ∷ texts)) p.1 h in
    none p.0 k.1.1
call_none op.List texts w t n r s none call h =
    let p = op_parts op.List texts call h in
    let k : IsRequest (op_word op.List ∷ texts) (request.List p.0) = subst (IsRequest (op_word op.List ∷ texts)) p.1 h in
    none p.0 k.1.1
call_none op.Fsync texts w t n r s none call h =
    let p = op_parts op.Fsync texts call h in
    let k : IsRequest (op_word op.Fsync ∷ texts) (request.Fsync p.0) = subst (IsRequest (op_word op.Fsync ∷ texts)) p.1 h in
    none p.0 k.1.1
call_none op.Write texts w t n r s none call h = absurd (w refl)
call_none op.Truncate texts w t n r s none call h = absurd (t refl)
call_none op.Rename texts w t n r s none call h = absurd (n refl)
call_none op.Read texts w t n r s none call h = absurd (r refl)
call_none op.Sync texts w t n r s none call h = absurd (s refl)

no_words : (call : Request) → ¬ (AreWords (request_words call) [])
no_words (request.Create path) h = h
no_words (request.Mkdir path) h = h
no_words (request.Write path pieces) h = h
no_words (request.Truncate path size) h = h
no_words (request.Unlink path) h = h
no_words (request.Rmdir path) h = h
no_words (request.Rename from to) h = h
no_words (request.Read path off len) h = h
no_words (request.List path) h = h
no_words (request.Fsync path) h = h
no_words request.Sync h = h

-- texts are one call at most
pub one_request : (texts : List (List ℕ)) (a b : Request) → IsRequest texts a → IsRequest texts b → a ≡ b
one_request [] a b h k = absurd (no_words a h.1)
one_request (word ∷ []) (request.Create path) b h k = absurd h.1.1
one_request (word ∷ text ∷ texts) (request.Create path) b h k =
    let p = op_parts op.Create (text ∷ texts) b (subst (λ w. IsRequest (w ∷ text ∷ texts) b) h.1.0 k) in
    let l : IsRequest (word ∷ text ∷ texts) (request.Create p.0) = subst (IsRequest (word ∷ text ∷ texts)) p.1 k in
    ap request.Create (one_path text path p.0 h.1.1.0 l.1.1.0) ∙ sym p.1
one_request (word ∷ []) (request.Mkdir path) b h k = absurd h.1.1
one_request (word ∷ text ∷ texts) (request.Mkdir path) b h k =
    let p = op_parts op.Mkdir (text ∷ texts) b (subst (λ w. IsRequest (w ∷ text ∷ texts) b) h.1.0 k) in
    let l : IsRequest (word ∷ text ∷ texts) (request.Mkdir p.0) = subst (IsRequest (word ∷ text ∷ texts)) p.1 k in
    ap request.Mkdir (one_path text path p.0 h.1.1.0 l.1.1.0) ∙ sym p.1
one_request (word ∷ []) (request.Unlink path) b h k = absurd h.1.1
one_request (word ∷ text ∷ texts) (request.Unlink path) b h k =
    let p = op_parts op.Unlink (text ∷ texts) b (subst (λ w. IsRequest (w ∷ text ∷ texts) b) h.1.0 k) in
    let l : IsRequest (word ∷ text ∷ texts) (request.Unlink p.0) = subst (IsRequest (word ∷ text ∷ texts)) p.1 k in
    ap request.Unlink (one_path text path p.0 h.1.1.0 l.1.1.0) ∙ sym p.1
one_request (word ∷ []) (request.Rmdir path) b h k = absurd h.1.1
one_request (word ∷ text ∷ texts) (request.Rmdir path) b h k =
    let p = op_parts op.Rmdir (text ∷ texts) b (subst (λ w. IsRequest (w ∷ text ∷ texts) b) h.1.0 k) in
    let l : IsRequest (word ∷ text ∷ texts) (request.Rmdir p.0) = subst (IsRequest (word ∷ text ∷ texts)) p.1 k in
    ap request.Rmdir (one_path text path p.0 h.1.1.0 l.1.1.0) ∙ sym p.1
one_request (word ∷ []) (request.List path) b h k = absurd h.1.1
one_request (word ∷ text ∷ texts) (request.List path) b h k =
    let p = op_parts op.List (text ∷ texts) b (subst (λ w. IsRequest (w ∷ text ∷ texts) b) h.1.0 k) in
    let l : IsRequest (word ∷ text ∷ texts) (request.List p.0) = subst (IsRequest (word ∷ text ∷ texts)) p.1 k in
    ap request.List (one_path text path p.0 h.1.1.0 l.1.1.0) ∙ sym p.1
one_request (word ∷ []) (request.Fsync path) b h k = absurd h.1.1
one_request (word ∷ text ∷ texts) (request.Fsync path) b h k =
    let p = op_parts op.Fsync (text ∷ texts) b (subst (λ w. IsRequest (w ∷ text ∷ texts) b) h.1.0 k) in
    let l : IsRequest (word ∷ text ∷ texts) (request.Fsync p.0) = subst (IsRequest (word ∷ text ∷ texts)) p.1 k in
    ap request.Fsync (one_path text path p.0 h.1.1.0 l.1.1.0) ∙ sym p.1
one_request (word ∷ []) (request.Write path pieces) b h k = absurd h.1.1
one_request (word ∷ text ∷ texts) (request.Write path pieces) b h k =
    let p = op_parts op.Write (text ∷ texts) b (subst (λ w. IsRequest (w ∷ text ∷ texts) b) h.1.0 k) in
    let l : IsRequest (word ∷ text ∷ texts) (request.Write p.0 p.1) = subst (IsRequest (word ∷ text ∷ texts)) p.2 k in
    ap (λ q. request.Write q pieces) (one_path text path p.0 h.1.1.0 l.1.1.0) ∙ ap (λ q. request.Write p.0 q) (one_pieces pieces p.1 texts h.1.1.1 l.1.1.1) ∙ sym p.2
one_request (word ∷ []) (request.Truncate path size) b h k = absurd h.1.1
one_request (word ∷ text ∷ []) (request.Truncate path size) b h k = absurd h.1.1.1
one_request (word ∷ text ∷ number ∷ texts) (request.Truncate path size) b h k =
    let p = op_parts op.Truncate (text ∷ number ∷ texts) b (subst (λ w. IsRequest (w ∷ text ∷ number ∷ texts) b) h.1.0 k) in
    let l : IsRequest (word ∷ text ∷ number ∷ texts) (request.Truncate p.0 p.1) = subst (IsRequest (word ∷ text ∷ number ∷ texts)) p.2 k in
    ap (λ q. request.Truncate q size) (one_path text path p.0 h.1.1.0 l.1.1.0)
    ∙ ap (λ n. request.Truncate p.0 n) (one_number 0 18446744073709551615 size p.1 number (omega arith) h.1.1.1.0 l.1.1.1.0) ∙ sym p.2
one_request (word ∷ []) (request.Rename from to) b h k = absurd h.1.1
one_request (word ∷ text ∷ []) (request.Rename from to) b h k = absurd h.1.1.1
one_request (word ∷ text ∷ other ∷ texts) (request.Rename from to) b h k =
    let p = op_parts op.Rename (text ∷ other ∷ texts) b (subst (λ w. IsRequest (w ∷ text ∷ other ∷ texts) b) h.1.0 k) in
    let l : IsRequest (word ∷ text ∷ other ∷ texts) (request.Rename p.0 p.1) = subst (IsRequest (word ∷ text ∷ other ∷ texts)) p.2 k in
    ap (λ q. request.Rename q to) (one_path text from p.0 h.1.1.0 l.1.1.0) ∙ ap (λ q. request.Rename p.0 q) (one_path other to p.1 h.1.1.1.0 l.1.1.1.0) ∙ sym p.2
one_request (word ∷ []) (request.Read path off len) b h k = absurd h.1.1
one_request (word ∷ text ∷ []) (request.Read path off len) b h k = absurd h.1.1.1
one_request (word ∷ text ∷ first ∷ []) (request.Read path off len) b h k = absurd h.1.1.1.1
one_request (word ∷ text ∷ first ∷ second ∷ texts) (request.Read path off len) b h k =
    let p = op_parts op.Read (text ∷ first ∷ second ∷ texts) b (subst (λ w. IsRequest (w ∷ text ∷ first ∷ second ∷ texts) b) h.1.0 k) in
    let l : IsRequest (word ∷ text ∷ first ∷ second ∷ texts) (request.Read p.0 p.1 p.2) = subst (IsRequest (word ∷ text ∷ first ∷ second ∷ texts)) p.3 k in
    ap (λ q. request.Read q off len) (one_path text path p.0 h.1.1.0 l.1.1.0)
    ∙ ap (λ n. request.Read p.0 n len) (one_number 0 18446744073709551615 off p.1 first (omega arith) h.1.1.1.0 l.1.1.1.0)
    ∙ ap (λ n. request.Read p.0 p.1 n) (one_number 1 1024 len p.2 second (omega arith) h.1.1.1.1.0 l.1.1.1.1.0) ∙ sym p.3
one_request (word ∷ texts) request.Sync b h k =
    sym (op_parts op.Sync texts b (subst (λ w. IsRequest (w ∷ texts) b) h.1.0 k))
