use Rattle.fleet_office.proofs.chapters.Hall+N+A.next_chapter.Goals as goal

pub returns : goal.returns
returns g c = record {
  book_spent = c.next_chapter.ensures.book_spent;
  history = c.next_chapter.ensures.history;
  number = c.next_chapter.ensures.number;
  legal = c.next_chapter.ensures.legal;
  planned = c.next_chapter.ensures.planned;
  advancing = c.next_chapter.ensures.advancing;
  bounded = c.next_chapter.ensures.bounded;
  served = c.next_chapter.ensures.served;
  next = c.next_chapter.ensures.next;
  err = c.next_chapter.ensures.err;
}
