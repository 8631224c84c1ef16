use Rattle.std.proofs.Common.{◌≡◌, [], ◌∷◌, List, length, map, get_or, sym, ap, arith, rules}
use Rattle.std.proofs.lemmas.Grind.{common_steps}
use Rattle.std.specs.Prelude.{string_bytes}
use Rattle.f2_top.proofs.commands.is_replay.Goals as goal

one-item : {X Y : Type 0} (f : X → Y) (xs : List X) (x : X) → length xs ≡ 1 → x ≡ get_or xs 0 x → map f xs ≡ f x ∷ []
one-item f [] x n e = absurd (omega (arith, n))
one-item f (y ∷ []) x n e = ap (λ z. f z ∷ []) (sym e)
one-item f (y ∷ z ∷ zs) x n e = absurd (omega (arith, n))

pub returns-in-len1 : goal.returns-in-len1
returns-in-len1 c =
    let whole : map string_bytes c.args.words.now ≡ string_bytes c.word-item.result ∷ [] =
    one-item string_bytes c.args.words.now c.word-item.result (omega arith) c.word-item.is in
    rw whole (first_of (search rules, grind (arith, common_steps)))
