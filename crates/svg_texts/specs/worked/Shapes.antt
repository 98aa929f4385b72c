-- Worked examples: the lines of a picture, and the legend.
use Rattle.std.specs.Prelude.{◌≡◌, ◌++◌, codes, refl}
use Rattle.std.specs.Fmt.{digits}
use Rattle.svg_texts.specs.worked.Computed.{pictured}
use Rattle.svg_texts.specs.Legend.{legend}
use Rattle.svg_texts.specs.Shapes.{deadline, end, line, rect, release, words}

pub a_rect : rect (codes "c0") 128 112 20 22 ≡ codes "<rect class=\"c0\" x=\"128\" y=\"112\" width=\"20\" height=\"22\"/>\n"
unfolding pictured digits
a_rect = refl

pub a_word : words (codes "n m") 108 90 (codes "0") ≡ codes "<text class=\"n m\" x=\"108\" y=\"90\">0</text>\n"
unfolding pictured digits
a_word = refl

pub a_line : line (codes "G") 108 96 0 148 ≡ codes "<path class=\"G\" d=\"M108 96h0v148\"/>\n"
unfolding pictured digits
a_line = refl

pub a_release : release 128 134 ≡ codes "<path class=\"r\" d=\"M128 134v-34l-3 6m3-6l3 6\"/>\n"
unfolding pictured digits
a_release = refl

-- it ends at y, and begins 34 above
pub a_deadline : deadline (codes "M") 695 304 ≡ codes "<path class=\"M\" d=\"M695 270v34l-3-6m3 6l3-6\"/>\n"
unfolding pictured digits
a_deadline = refl

pub an_end : end 168 134 ≡ codes "<path class=\"c\" d=\"M168 134v-25m-5 0h10\"/>\n"
unfolding pictured digits
an_end = refl

pub a_legend : legend 260 ≡
    release 35 304 ++ (
    words (codes "t") 62 296 (codes "release, at the start of its tick") ++ (
    deadline (codes "d") 365 304 ++ (
    words (codes "t") 392 296 (codes "deadline, at the end of its tick") ++ (
    deadline (codes "M") 695 304 ++ (
    words (codes "t") 722 296 (codes "deadline missed") ++ (
    end 35 348 ++ (
    words (codes "t") 62 340 (codes "end of a job") ++ (
    rect (codes "c0") 350 324 30 22 ++ (
    words (codes "m") 365 336 (codes "0") ++ (
    words (codes "t") 392 340 (codes "units of work, on processor 0") ++ (
    rect (codes "c0") 680 324 30 22 ++ (
    rect (codes "o") 683 327 24 16 ++ (
    words (codes "m") 695 336 (codes "0") ++ (
    words (codes "t") 722 340 (codes "runs on 0, and does no unit") ++ (
    rect (codes "y") 20 378 30 3 ++ (
    words (codes "t") 62 384 (codes "there, not running") ++ (
    rect (codes "z") 350 378 30 3 ++ (
    words (codes "t") 392 384 (codes "sleeps") ++ (
    rect (codes "w") 680 368 30 22 ++ (
    words (codes "t") 722 384 (codes "waits for a semaphore") ++ (
    rect (codes "B") 20 412 30 22 ++ (
    words (codes "t") 62 428 (codes "waits, priority-blocked") ++ (
    rect (codes "c0") 350 412 30 22 ++ (
    rect (codes "s") 350 428 30 6 ++ (
    words (codes "t") 392 428 (codes "holds the semaphore below") ++ (
    rect (codes "c0") 680 412 30 22 ++ (
    rect (codes "p") 680 412 30 3 ++ (
    words (codes "t") 722 428 (codes "non-preemptive") ++ (
    rect (codes "c0") 20 456 30 22 ++ (
    rect (codes "k") 20 452 30 4 ++ (
    words (codes "t") 62 472 (codes "key raised: inherited or boosted") ++ (
    rect (codes "c0") 350 456 30 18 ++ (
    rect (codes "c1") 350 476 30 4 ++ (
    words (codes "t") 392 472 (codes "what a processor runs; its link") ++ (
    rect (codes "c0") 680 470 30 10 ++ (
    words (codes "m") 695 478 (codes "1") ++ (
    words (codes "t") 722 472 (codes "budget left of a reservation"))))))))))))))))))))))))))))))))))))))
unfolding pictured digits
a_legend = refl
