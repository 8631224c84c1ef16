use Rattle.std.proofs.Common.{ℕ, List, ap, ◌∙◌, arith}
use Rattle.lru.specs.LruCache.{LruCache}
use Rattle.f2_pages.proofs.Pages.{Page, view, view-remove_entry, view-none}
use Rattle.f2_pages.proofs.store.forget.Goals as goal

pub returns-then-len-gt0-clause-left : goal.returns-then-len-gt0-clause-left
returns-then-len-gt0-clause-left c =
    ap (λ (cache : LruCache Page (List ℕ)). view cache.entries) c.pop.ensures.entries
    ∙ view-remove_entry c.args.page c.args.clean.now.entries c.len.ensures.valid.0

pub returns-else-len-gt0-clause-left : goal.returns-else-len-gt0-clause-left
returns-else-len-gt0-clause-left c = view-none c.args.page c.args.clean.now.entries (omega arith)
