use Rattle.f2_plain_check.proofs.good.is_good_row.Goals as goal

pub returns-in_ok-has_good_pages : goal.returns-in_ok-has_good_pages
returns-in_ok-has_good_pages c = (
  λ t. record { place = c.has_place.ensures.0 c.if-has_place.true; pages = c.in_ok-has_good_pages.ensures.0 t },
  λ good. c.in_ok-has_good_pages.ensures.1 good.pages,
)
