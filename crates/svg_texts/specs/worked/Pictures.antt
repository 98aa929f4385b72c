-- Worked pictures: jobs that are released early, by ticks, and a wait for a semaphore of another processor, by entries.
use Rattle.std.specs.Prelude.{◌≡◌, [], ◌∷◌, ◌++◌, codes, refl}
use Rattle.std.specs.Fmt.{digits}
use Rattle.rt_model.specs.worked.Computed.{computed}
use Rattle.rt_model.specs.worked.Samples.{entries_of}
use Rattle.trace_views.specs.worked.Computed.{shown}
use Rattle.chart_texts.specs.declared.window.Axis.TheVariants.{Entries, Ticks}
use Rattle.chart_texts.specs.worked.Computed.{charted}
use Rattle.chart_texts.specs.worked.Jobs.{eager, eager_lines}
use Rattle.chart_texts.specs.worked.Sharing.{remote}
use Rattle.trace_views.specs.worked.Sharing.{remote_lines}
use Rattle.svg_texts.specs.worked.Computed.{pictured}
use Rattle.svg_texts.specs.Legend.{legend}
use Rattle.svg_texts.specs.Shapes.{end, line, rect, release, words}
use Rattle.svg_texts.specs.SvgText.{head, whole_svg}

pub eager_ticks : whole_svg Ticks eager.setup (entries_of eager_lines ∷ []) ≡
    head 1010 512 ++ (
    words (codes "h") 20 26 (codes "GSN-EDF, ticks 0 to 5 of 5") ++ (
    words (codes "h") 20 56 (codes "group 0") ++ (
    words (codes "n e") 96 90 (codes "tick") ++ (
    line (codes "G") 108 96 0 148 ++ (
    words (codes "n m") 108 90 (codes "0") ++ (
    line (codes "g") 128 96 0 148 ++ (
    words (codes "n m") 128 90 (codes "1") ++ (
    line (codes "g") 148 96 0 148 ++ (
    words (codes "n m") 148 90 (codes "2") ++ (
    line (codes "g") 168 96 0 148 ++ (
    words (codes "n m") 168 90 (codes "3") ++ (
    line (codes "g") 188 96 0 148 ++ (
    words (codes "n m") 188 90 (codes "4") ++ (
    line (codes "G") 208 96 0 148 ++ (
    words (codes "e") 100 128 (codes "1 eager") ++ (
    rect (codes "c0") 128 112 20 22 ++ (
    words (codes "m") 138 124 (codes "0") ++ (
    rect (codes "y") 148 122 20 3 ++ (
    rect (codes "c0") 168 112 20 22 ++ (
    words (codes "m") 178 124 (codes "0") ++ (
    rect (codes "c0") 188 112 20 22 ++ (
    words (codes "m") 198 124 (codes "0") ++ (
    line (codes "b") 108 134 100 0 ++ (
    release 128 134 ++ (
    end 168 134 ++ (
    end 208 134 ++ (
    words (codes "e") 100 180 (codes "2 steady") ++ (
    rect (codes "c1") 108 164 20 22 ++ (
    words (codes "m") 118 176 (codes "0") ++ (
    rect (codes "y") 128 174 20 3 ++ (
    rect (codes "c1") 148 164 20 22 ++ (
    words (codes "m") 158 176 (codes "0") ++ (
    rect (codes "y") 168 174 20 3 ++ (
    line (codes "b") 108 186 100 0 ++ (
    release 108 186 ++ (
    end 188 186 ++ (
    words (codes "e") 100 225 (codes "processor 0") ++ (
    rect (codes "c1") 108 212 20 18 ++ (
    words (codes "m") 118 224 (codes "2") ++ (
    rect (codes "c0") 128 212 20 18 ++ (
    words (codes "m") 138 224 (codes "1") ++ (
    rect (codes "c1") 148 212 20 18 ++ (
    words (codes "m") 158 224 (codes "2") ++ (
    rect (codes "c0") 168 212 40 18 ++ (
    words (codes "m") 188 224 (codes "eager") ++ (
    rect (codes "c1") 108 232 20 4 ++ (
    rect (codes "c0") 128 232 20 4 ++ (
    rect (codes "c1") 148 232 20 4 ++ (
    rect (codes "c0") 168 232 40 4 ++ (
    line (codes "b") 108 230 100 0 ++ (
    legend 260 ++ codes "</svg>\n")))))))))))))))))))))))))))))))))))))))))))))))))))
unfolding computed shown charted pictured digits
eager_ticks = refl

pub remote_entries : whole_svg Entries remote.setup (entries_of remote_lines ∷ []) ≡
    head 1010 616 ++ (
    words (codes "h") 20 26 (codes "P-FP, entries 0 to 16 of 16") ++ (
    words (codes "h") 20 56 (codes "group 0") ++ (
    words (codes "n e") 96 76 (codes "clock") ++ (
    words (codes "n e") 96 90 (codes "entry") ++ (
    line (codes "G") 108 96 0 236 ++ (
    words (codes "n m") 118 90 (codes "0") ++ (
    words (codes "n") 108 76 (codes "0") ++ (
    line (codes "g") 128 96 0 236 ++ (
    words (codes "n m") 138 90 (codes "1") ++ (
    line (codes "g") 148 96 0 236 ++ (
    words (codes "n m") 158 90 (codes "2") ++ (
    line (codes "g") 168 96 0 236 ++ (
    words (codes "n m") 178 90 (codes "3") ++ (
    line (codes "g") 188 96 0 236 ++ (
    words (codes "n m") 198 90 (codes "4") ++ (
    words (codes "n") 188 76 (codes "1") ++ (
    line (codes "G") 208 96 0 236 ++ (
    words (codes "n m") 218 90 (codes "5") ++ (
    line (codes "g") 228 96 0 236 ++ (
    words (codes "n m") 238 90 (codes "6") ++ (
    line (codes "g") 248 96 0 236 ++ (
    words (codes "n m") 258 90 (codes "7") ++ (
    line (codes "g") 268 96 0 236 ++ (
    words (codes "n m") 278 90 (codes "8") ++ (
    line (codes "g") 288 96 0 236 ++ (
    words (codes "n m") 298 90 (codes "9") ++ (
    line (codes "G") 308 96 0 236 ++ (
    words (codes "n m") 318 90 (codes "10") ++ (
    words (codes "n") 308 76 (codes "2") ++ (
    line (codes "g") 328 96 0 236 ++ (
    words (codes "n m") 338 90 (codes "11") ++ (
    words (codes "n") 328 76 (codes "3") ++ (
    line (codes "g") 348 96 0 236 ++ (
    words (codes "n m") 358 90 (codes "12") ++ (
    line (codes "g") 368 96 0 236 ++ (
    words (codes "n m") 378 90 (codes "13") ++ (
    line (codes "g") 388 96 0 236 ++ (
    words (codes "n m") 398 90 (codes "14") ++ (
    line (codes "G") 408 96 0 236 ++ (
    words (codes "n m") 418 90 (codes "15") ++ (
    line (codes "g") 428 96 0 236 ++ (
    words (codes "e") 100 128 (codes "1 pulse") ++ (
    rect (codes "y") 188 122 100 3 ++ (
    rect (codes "c0") 288 112 20 22 ++ (
    rect (codes "o") 291 115 14 16 ++ (
    words (codes "m") 298 124 (codes "0") ++ (
    rect (codes "c0") 308 112 20 22 ++ (
    words (codes "m") 318 124 (codes "0") ++ (
    rect (codes "y") 328 122 20 3 ++ (
    line (codes "b") 108 134 320 0 ++ (
    release 188 134 ++ (
    end 348 134 ++ (
    words (codes "e") 100 180 (codes "2 driver") ++ (
    rect (codes "c1") 108 164 120 22 ++ (
    rect (codes "o") 111 167 114 16 ++ (
    words (codes "m") 168 176 (codes "0") ++ (
    rect (codes "c1") 228 164 20 22 ++ (
    words (codes "m") 238 176 (codes "0") ++ (
    rect (codes "c1") 248 164 40 22 ++ (
    rect (codes "o") 251 167 34 16 ++ (
    words (codes "m") 268 176 (codes "0") ++ (
    rect (codes "y") 288 174 100 3 ++ (
    rect (codes "c1") 388 164 20 22 ++ (
    rect (codes "o") 391 167 14 16 ++ (
    words (codes "m") 398 176 (codes "0") ++ (
    rect (codes "y") 408 174 20 3 ++ (
    rect (codes "s") 168 180 100 6 ++ (
    words (codes "n") 169 195 (codes "buffer") ++ (
    rect (codes "k") 168 160 100 4 ++ (
    line (codes "b") 108 186 320 0 ++ (
    release 108 186 ++ (
    end 428 186 ++ (
    words (codes "e") 100 232 (codes "3 filter") ++ (
    rect (codes "y") 108 226 20 3 ++ (
    rect (codes "c2") 128 216 40 22 ++ (
    rect (codes "o") 131 219 34 16 ++ (
    words (codes "m") 148 228 (codes "1") ++ (
    rect (codes "B") 168 216 100 22 ++ (
    words (codes "m") 218 228 (codes "buffer") ++ (
    rect (codes "c2") 268 216 100 22 ++ (
    rect (codes "o") 271 219 94 16 ++ (
    words (codes "m") 318 228 (codes "1") ++ (
    rect (codes "y") 368 226 20 3 ++ (
    rect (codes "s") 268 232 100 6 ++ (
    words (codes "n") 269 247 (codes "buffer") ++ (
    rect (codes "k") 268 212 100 4 ++ (
    line (codes "b") 108 238 320 0 ++ (
    release 108 238 ++ (
    end 388 238 ++ (
    words (codes "e") 100 277 (codes "processor 0") ++ (
    rect (codes "c1") 108 264 120 18 ++ (
    rect (codes "o") 111 267 114 12 ++ (
    words (codes "m") 168 276 (codes "driver") ++ (
    rect (codes "c1") 228 264 20 18 ++ (
    words (codes "m") 238 276 (codes "2") ++ (
    rect (codes "c1") 248 264 40 18 ++ (
    rect (codes "o") 251 267 34 12 ++ (
    words (codes "m") 268 276 (codes "2") ++ (
    rect (codes "c0") 288 264 20 18 ++ (
    rect (codes "o") 291 267 14 12 ++ (
    words (codes "m") 298 276 (codes "1") ++ (
    rect (codes "c0") 308 264 20 18 ++ (
    words (codes "m") 318 276 (codes "1") ++ (
    rect (codes "c1") 388 264 20 18 ++ (
    rect (codes "o") 391 267 14 12 ++ (
    words (codes "m") 398 276 (codes "2") ++ (
    rect (codes "c1") 108 284 140 4 ++ (
    rect (codes "c0") 248 284 80 4 ++ (
    rect (codes "c1") 328 284 80 4 ++ (
    line (codes "b") 108 282 320 0 ++ (
    words (codes "e") 100 313 (codes "processor 1") ++ (
    rect (codes "c2") 128 300 40 18 ++ (
    rect (codes "o") 131 303 34 12 ++ (
    words (codes "m") 148 312 (codes "3") ++ (
    rect (codes "c2") 268 300 100 18 ++ (
    rect (codes "o") 271 303 94 12 ++ (
    words (codes "m") 318 312 (codes "filter") ++ (
    rect (codes "c2") 108 320 60 4 ++ (
    rect (codes "c2") 248 320 120 4 ++ (
    line (codes "b") 108 318 320 0 ++ (
    words (codes "t") 20 360 (codes "s1 is buffer, MPCP") ++ (
    legend 364 ++ codes "</svg>\n"
    ))))))))))))))))))))))))))))))))))))))))))))))))))))))))))))))))))))))))))))))))))))))))))))))))))))))))))))))))))))))))))
unfolding computed shown charted pictured digits
remote_entries = refl
