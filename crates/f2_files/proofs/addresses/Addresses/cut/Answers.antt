use Rattle.std.proofs.Common.{nat_lt, rules}
use Rattle.std.proofs.lemmas.Map.Made.{filter_same_pairs}
use Rattle.f2_files.proofs.Seen.{seen-retain_keys}
use Rattle.f2_files.proofs.addresses.Addresses.cut.Goals as goal

pub returns : goal.returns
returns c =
    seen-retain_keys c.self.inside.pages.entries _ c.self.view_is _ (λ page. nat_lt page c.args.from)
    (filter_same_pairs _ (λ e. nat_lt e.0 c.args.from) _ (λ k v b w f' t. search rules) _ _ c.retain.ensures.filtered)
