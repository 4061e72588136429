use Rattle.fleet_office.proofs.chapters.Hall+N+A.grown_chapter.Goals as goal

pub returns : goal.returns
returns g c = record {
  few = c.grown_chapter.ensures.few;
  book_spent = c.grown_chapter.ensures.book_spent;
  ok = c.grown_chapter.ensures.ok;
  err = c.grown_chapter.ensures.err;
}
