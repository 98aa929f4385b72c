use Rattle.set_books.proofs.BookLaws as laws
use Rattle.set_books.proofs.books_are_legal.Goals as goal

pub returns : goal.returns
returns c = laws.books_are_legal
