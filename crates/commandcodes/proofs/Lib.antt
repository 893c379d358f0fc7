mod StoppedCodes
